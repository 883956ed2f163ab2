-- slots_before-requires: slots are in order. returns: the first slot that doesn't come before the place lies there, if any does.
use Rattle.std.proofs.Common.{◌≤◌, sym, ap, ◌∙◌, subst, arith}
use Rattle.std.specs.List.{list_any}
use Rattle.std.specs.List.Sorted.{IsNonDecreasingBy}
use Rattle.toc_rewrite.specs.declared.found.Slot.{Slot}
use Rattle.toc_rewrite.specs.Folded.{FoldedSlots, is_slot_at}
use Rattle.toc_rewrite.specs.inside.Slots.{slot_rank}
use Rattle.toc_rewrite.proofs.SlotPlaces.{rank_at, none_there, first_there, place_exact, place_own}
use Rattle.toc_rewrite.proofs.folds.Folds.folded.Goals as goal

pub slots_before-next-requires : goal.slots_before-next-requires
slots_before-next-requires c = subst (IsNonDecreasingBy slot_rank) (sym c.as_slice-slots.ensures.value) c.self.invariant.placed

pub returns-in-None : goal.returns-in-None
returns-in-None c =
    let this = rank_at c.args.file c.args.section c.args.offset in
    let test = is_slot_at c.args.file c.args.section c.args.offset in
    sym (none_there slot_rank test this (place_exact c.args.file c.args.section c.args.offset) c.as_slice-slots.result.now
    c.slots_before-next.result c.slots_before-next.ensures.before c.in-None.ensures.lookup.3)
    ∙ ap (list_any test) (c.as_slice-slots.ensures.value ∙ ap (λ (f : FoldedSlots). f.slots) c.self.view_is)

pub returns-in-Some : goal.returns-in-Some
returns-in-Some c =
    let slots = c.as_slice-slots.result.now in
    let this = rank_at c.args.file c.args.section c.args.offset in
    let test = is_slot_at c.args.file c.args.section c.args.offset in
    let next = c.slots_before-next.result in
    let s = c.in-Some.slot.now in
    let found = c.in-Some.ensures.lookup.3 in
    let sorted = subst (IsNonDecreasingBy slot_rank) (sym c.as_slice-slots.ensures.value) c.self.invariant.placed in
    let after : this ≤ slot_rank s =
    subst (λ (t : Slot). this ≤ slot_rank t) (sym (found.1 s)) (c.slots_before-next.ensures.after next s (omega arith) found.0) in
    c.is_at.ensures.is
    ∙ first_there slot_rank test this (place_exact c.args.file c.args.section c.args.offset) slots next
    c.slots_before-next.ensures.before s sorted found.0 found.1
    (place_own c.args.file c.args.section c.args.offset s c.is_at.ensures.section c.is_at.ensures.offset c.ranges.section.fits
    c.ranges.offset.fits) after
    ∙ ap (list_any test) (c.as_slice-slots.ensures.value ∙ ap (λ (f : FoldedSlots). f.slots) c.self.view_is)
