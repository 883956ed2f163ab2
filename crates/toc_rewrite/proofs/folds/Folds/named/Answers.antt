-- named_before-requires: slots are in order of their addresses. returns: the first slot that doesn't come before the name has it, if any
-- does.
use Rattle.std.proofs.Common.{◌≡◌, ◌≤◌, ℕ, false, List, sym, ap, ◌∙◌, subst, arith}
use Rattle.std.specs.List.{list_any, Contains}
use Rattle.std.specs.List.Sorted.{IsPermutation, IsNonDecreasingBy}
use Rattle.std.proofs.lemmas.List.Sorted.{list_any-IsPermutation, Contains-permutation, IsPermutation-sym}
use Rattle.toc_rewrite.specs.declared.found.Slot.{Slot}
use Rattle.toc_rewrite.specs.Folded.{FoldedSlots, is_slot_named}
use Rattle.toc_rewrite.specs.inside.Slots.{name_rank}
use Rattle.toc_rewrite.proofs.SlotPlaces.{named_at, none_there, first_there, name_exact, name_own, name_parts}
use Rattle.toc_rewrite.proofs.folds.Folds.named.Goals as goal

-- none of the slots in order of their places has a name that none has in the other order
none_named : (file number : ℕ) (slots items named own : List Slot) → IsPermutation slots items → named ≡ items → slots ≡ own →
    list_any (is_slot_named file number) named ≡ false → list_any (is_slot_named file number) own ≡ false
none_named file number slots items named own same read is none =
    ap (list_any (is_slot_named file number)) (sym is) ∙ list_any-IsPermutation (is_slot_named file number) slots items same
    ∙ ap (list_any (is_slot_named file number)) (sym read) ∙ none

pub named_before-next-requires : goal.named_before-next-requires
named_before-next-requires c = subst (IsNonDecreasingBy name_rank) (sym c.as_slice-named.ensures.value) c.self.invariant.sorted

pub returns-in-None : goal.returns-in-None
returns-in-None c =
    let named = c.as_slice-named.result.now in
    none_named c.args.file c.args.number c.self.inside.slots.items c.self.inside.named.items named c.args.self.now.slots
    c.self.invariant.same c.as_slice-named.ensures.value (ap (λ (f : FoldedSlots). f.slots) c.self.view_is)
    (none_there name_rank (is_slot_named c.args.file c.args.number) (named_at c.args.file c.args.number)
    (name_exact c.args.file c.args.number) named c.named_before-next.result c.named_before-next.ensures.before
    c.in-None.ensures.lookup.3)

pub returns-else-is_named : goal.returns-else-is_named
returns-else-is_named c =
    let named = c.as_slice-named.result.now in
    let this = named_at c.args.file c.args.number in
    let next = c.named_before-next.result in
    let s = c.in-Some.slot.now in
    let found = c.in-Some.ensures.lookup.3 in
    let sorted = subst (IsNonDecreasingBy name_rank) (sym c.as_slice-named.ensures.value) c.self.invariant.sorted in
    let after : this ≤ name_rank s =
    subst (λ (t : Slot). this ≤ name_rank t) (sym (found.1 s)) (c.named_before-next.ensures.after next s (omega arith) found.0) in
    none_named c.args.file c.args.number c.self.inside.slots.items c.self.inside.named.items named c.args.self.now.slots
    c.self.invariant.same c.as_slice-named.ensures.value (ap (λ (f : FoldedSlots). f.slots) c.self.view_is)
    (sym (first_there name_rank (is_slot_named c.args.file c.args.number) this (name_exact c.args.file c.args.number) named next
    c.named_before-next.ensures.before s sorted found.0 found.1
    (name_own c.args.file c.args.number s c.is_named.ensures.address c.ranges.number.fits) after)
    ∙ sym c.is_named.ensures.is ∙ c.if-is_named.false)

pub returns-then-is_named : goal.returns-then-is_named
returns-then-is_named c =
    let items = c.self.inside.named.items in
    let slots = c.self.inside.slots.items in
    let s = c.in-Some.slot.now in
    let found = c.in-Some.ensures.lookup.3 in
    let parts = name_parts c.args.file c.args.number s (sym c.is_named.ensures.is ∙ c.if-is_named.true) in
    let among : Contains c.as_slice-named.result.now s = (c.named_before-next.result, found.0, sym (found.1 s)) in
    let there : Contains items s = subst (λ (l : List Slot). Contains l s) c.as_slice-named.ensures.value among in
    record {
      one = subst (λ (l : List Slot). Contains l s) (ap (λ (f : FoldedSlots). f.slots) c.self.view_is)
          (Contains-permutation items slots s (IsPermutation-sym slots items c.self.invariant.same) there);
      file_is = parts.0;
      begins = parts.1;
    }
