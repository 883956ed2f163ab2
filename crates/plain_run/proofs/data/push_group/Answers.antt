-- group_slots-requires, push_slot-requires: the group, and the slot, is there. loop-k-preserved: what one slot more holds. returns: what
-- all hold.
use Rattle.std.proofs.Common.{◌≡◌, ◌++◌, ℕ, List, length, ap, ◌∙◌, arith}
use Rattle.std.specs.List.{flat_map, range_with_len}
use Rattle.object_set.specs.declared.places.SymbolId.{SymbolId}
use Rattle.toc_groups.specs.Data.{group_slots}
use Rattle.toc_groups.proofs.Reading.{named_long, slots_read}
use Rattle.plain_run.specs.Data.{slot_pointers}
use Rattle.plain_run.proofs.DataPointers.{put_next}
use Rattle.plain_run.proofs.data.push_group.Goals as goal

pub group_slots-k-end-requires : goal.group_slots-k-end-requires
group_slots-k-end-requires c =
    omega (arith, c.requires.group, named_long c.args.res.now.files c.args.plan.now.span c.args.plan.now c.requires.plan.plan_is)

pub push_slot-requires-clause-slot : goal.push_slot-requires-clause-slot
push_slot-requires-clause-slot c =
    let read = slots_read c.args.res.now.files c.args.plan.now.span c.args.plan.now c.requires.plan.plan_is c.args.group
    c.group_slots-k-end.result.now c.requires.group c.group_slots-k-end.ensures in
    let long = ap (λ (l : List SymbolId). length l) read in
    omega (arith, long, c.loop-k-test.true)

pub loop-k-preserved : goal.loop-k-preserved
loop-k-preserved c =
    put_next (slot_pointers c.args.res.now.files c.args.plan.now.span c.args.group) c.args.pointers.now.items c.loop-k.pointers.items
    c.push_slot.new.pointers.items c.loop-k.k c.loop-k.invariant c.in_ok-push_slot.ensures

pub returns : goal.returns
returns c =
    let files = c.args.res.now.files in
    let span = c.args.plan.now.span in
    let read = slots_read files span c.args.plan.now c.requires.plan.plan_is c.args.group c.group_slots-k-end.result.now c.requires.group
    c.group_slots-k-end.ensures in
    let long = ap (λ (l : List SymbolId). length l) read in
    let all : c.loop-k.k ≡ length (group_slots files span c.args.group) =
    omega (arith, long, c.loop-k.auto.k-end, c.loop-k-test.false) in
    c.loop-k.invariant
    ∙ ap (λ (n : ℕ). c.args.pointers.now.items ++ flat_map (slot_pointers files span c.args.group) (range_with_len 0 n)) all
