use Rattle.std.proofs.Common.{◌≡◌, ℕ, List, [], ◌∷◌, ◌++◌, ◌+◌, ◌≤◌, length, false, slice_get, slice_set, sym, ap, ◌∙◌, refl, subst, arith, length-set}
use Rattle.std.specs.List.{list_any}
use Rattle.std.specs.Str.{bytes_eq}
use Rattle.symbol_table.specs.inside.Keys.{named}
use Rattle.symbol_table.specs.inside.NameIndex.{first_slot, IsFree, IsIndex}
use Rattle.symbol_table.proofs.NameIndex.{named_append, named_length, get_last, index_slotted, index_crowded, index_kept}
use Rattle.symbol_table.proofs.names.NameIndex.take_in.Goals as goal

-- the name lies in its first slot that was empty
pub invariant_of-self-then-number-lt-SLOT_LIMIT : goal.invariant_of-self-then-number-lt-SLOT_LIMIT
invariant_of-self-then-number-lt-SLOT_LIMIT c =
    let names = c.self.inside.names.items in
    let slots = c.self.inside.slots.items in
    let start = c.first_slot-start.result in
    let i = c.in-Some.i in
    let number = c.len-number.result in
    let count : c.len.result ≡ length slots = c.len.ensures ∙ c.self.inside.slots.ok.0 in
    let within = c.first_slot-start.ensures.within in
    let room : start + 8 ≤ length slots = omega (arith, count, within) in
    let starts : start ≡ first_slot (length slots) c.args.name.now =
    c.first_slot-start.ensures.start ∙ ap (λ (n : ℕ). first_slot n c.args.name.now) count in
    let free : IsFree slots start i = subst (λ (l : List ℕ). IsFree l start i) c.deref.ensures.value c.in-Some.ensures in
    let last : number ≡ length (named names) = c.len-number.ensures ∙ c.self.inside.names.ok.0 ∙ sym (named_length names) in
    let more : named c.push.new.self.items ≡ named names ++ c.args.name.now ∷ [] =
    ap named c.in_ok-push-in-Some.ensures.items ∙ named_append names (c.args.name ∷ []) in
    subst (λ (l : List (List ℕ)). IsIndex l (slice_set slots (start + i) (number + 1)) c.self.inside.crowd) (sym more)
    (index_slotted (named names) c.args.name.now slots (slice_set slots (start + i) (number + 1)) c.self.inside.crowd start i number
    c.self.invariant starts room free last refl
    (length-set slots (start + i) (number + 1)))

-- the name lies in the map
pub invariant_of-self-in-Continue-branch-3 : goal.invariant_of-self-in-Continue-branch-3
invariant_of-self-in-Continue-branch-3 c =
    let names = c.self.inside.names.items in
    let number = c.len-number.result in
    let none : list_any (bytes_eq c.args.name.now) (named names) ≡ false =
    ap (λ (l : List (List ℕ)). list_any (bytes_eq c.args.name.now) l) c.self.view_is ∙ c.requires.new in
    let last : number ≡ length (named names) = c.len-number.ensures ∙ c.self.inside.names.ok.0 ∙ sym (named_length names) in
    let more : named c.push-in_default.new.self.items ≡ named names ++ c.args.name.now ∷ [] =
    ap named c.in_ok-push-in_default.ensures.items ∙ named_append names (c.args.name ∷ []) in
    subst (λ (l : List (List ℕ)). IsIndex l c.self.inside.slots.items c.insert.new.self) (sym more)
    (index_crowded (named names) c.args.name.now c.self.inside.slots.items c.self.inside.crowd c.insert.new.self number c.self.invariant
    none
    last c.in_ok-insert-in_default.ensures.updates)

-- the name lies in the map, and has no number
pub invariant_of-self-in_err-push-in_default : goal.invariant_of-self-in_err-push-in_default
invariant_of-self-in_err-push-in_default c =
    let names = c.self.inside.names.items in
    let none : list_any (bytes_eq c.args.name.now) (named names) ≡ false =
    ap (λ (l : List (List ℕ)). list_any (bytes_eq c.args.name.now) l) c.self.view_is ∙ c.requires.new in
    let same : named c.push-in_default.new.self.items ≡ named names = ap named c.in_err-push-in_default.ensures.items in
    subst (λ (l : List (List ℕ)). IsIndex l c.self.inside.slots.items c.insert.new.self) (sym same)
    (index_kept (named names) c.args.name.now c.self.inside.slots.items c.self.inside.crowd c.insert.new.self c.len-number.result
    c.self.invariant none c.in_ok-insert-in_default.ensures.updates)

-- the last name has the number
pub returns-in_ok-push-in-Some-clause-number : goal.returns-in_ok-push-in-Some-clause-number
returns-in_ok-push-in-Some-clause-number c =
    let names = c.self.inside.names.items in
    let last : c.len-number.result ≡ length (named names) = c.len-number.ensures ∙ c.self.inside.names.ok.0 ∙ sym (named_length names) in
    let more : named c.push.new.self.items ≡ named names ++ c.args.name.now ∷ [] =
    ap named c.in_ok-push-in-Some.ensures.items ∙ named_append names (c.args.name ∷ []) in
    ap (λ (l : List (List ℕ)). slice_get l c.len-number.result) more
    ∙ ap (λ (n : ℕ). slice_get (named names ++ c.args.name.now ∷ []) n) last ∙ get_last (named names) c.args.name.now

-- so does it where the name lies in the map
pub returns-in_ok-push-in_default-clause-number : goal.returns-in_ok-push-in_default-clause-number
returns-in_ok-push-in_default-clause-number c =
    let names = c.self.inside.names.items in
    let last : c.len-number.result ≡ length (named names) = c.len-number.ensures ∙ c.self.inside.names.ok.0 ∙ sym (named_length names) in
    let more : named c.push-in_default.new.self.items ≡ named names ++ c.args.name.now ∷ [] =
    ap named c.in_ok-push-in_default.ensures.items ∙ named_append names (c.args.name ∷ []) in
    ap (λ (l : List (List ℕ)). slice_get l c.len-number.result) more
    ∙ ap (λ (n : ℕ). slice_get (named names ++ c.args.name.now ∷ []) n) last ∙ get_last (named names) c.args.name.now
