use Rattle.std.proofs.Common.{◌≡◌, ℕ, List, Some, Bor, slice_get, length, sym, ap, ◌∙◌}
use Rattle.std.specs.List.{list_any}
use Rattle.std.specs.Str.{bytes_eq}
use Rattle.symbol_table.proofs.NameIndex.{not_found, slots_of}
use Rattle.symbol_table.specs.inside.Keys.{named}
use Rattle.symbol_table.proofs.names.NameIndex.find.Goals as goal

-- neither the slots nor the map have the name
pub returns-in-None : goal.returns-in-None
returns-in-None c =
    let count : c.len.result ≡ length c.self.inside.slots.items = c.len.ensures ∙ c.self.inside.slots.ok.0 in
    let slotted = slots_of c.self.inside.names.items c.deref.result.now c.self.inside.slots.items c.deref-2.result.now
    c.first_slot-start.result c.len.result c.args.name.now c.deref.ensures.value c.deref-2.ensures.value
    c.first_slot-start.ensures.start count
    c.in_default.ensures in
    ap (λ (l : List (List ℕ)). list_any (bytes_eq c.args.name.now) l) (sym c.self.view_is)
    ∙ not_found (named c.self.inside.names.items) c.args.name.now c.self.inside.slots.items c.self.inside.crowd c.self.invariant slotted
    (λ k gives found. let none = c.in-None.ensures.value in cc)

-- the map has another name with its number
pub returns-else-is_name : goal.returns-else-is_name
returns-else-is_name c =
    let count : c.len.result ≡ length c.self.inside.slots.items = c.len.ensures ∙ c.self.inside.slots.ok.0 in
    let slotted = slots_of c.self.inside.names.items c.deref.result.now c.self.inside.slots.items c.deref-2.result.now
    c.first_slot-start.result c.len.result c.args.name.now c.deref.ensures.value c.deref-2.ensures.value
    c.first_slot-start.ensures.start count
    c.in_default.ensures in
    let other = c.if-is_name.ensures.1 in
    ap (λ (l : List (List ℕ)). list_any (bytes_eq c.args.name.now) l) (sym c.self.view_is)
    ∙ not_found (named c.self.inside.names.items) c.args.name.now c.self.inside.slots.items c.self.inside.crowd c.self.invariant slotted
    (λ k gives found.
    let gave = c.in-Some-get.ensures.value in
    let same : c.in-Some-get.number.now ≡ k = cc in
    let at : slice_get (named c.deref-in-Some-get.result.now) c.in-Some-get.number.now ≡ Some c.args.name.now =
    ap (λ (l : List (Bor (List ℕ))). slice_get (named l) c.in-Some-get.number.now) c.deref-in-Some-get.ensures.value
    ∙ ap (λ (n : ℕ). slice_get (named c.self.inside.names.items) n) same ∙ found in
    let yes = other at in
    cc)
