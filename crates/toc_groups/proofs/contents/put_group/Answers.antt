-- group_slots-requires, put_slot-requires: the group, and the slot, is there. returns: all slots of the group are filled.
use Rattle.std.proofs.Common.{ℕ, ◌≡◌, List, length, ap, subst, arith}
use Rattle.object_set.specs.declared.places.SymbolId.{SymbolId}
use Rattle.toc_groups.specs.Data.{group_slots}
use Rattle.toc_groups.specs.inside.Filled.{AreSlotted}
use Rattle.toc_groups.specs.inside.Memory.{byte_of}
use Rattle.toc_groups.proofs.Filling.{slot_group}
use Rattle.toc_groups.proofs.Reading.{named_long, slots_read}
use Rattle.toc_groups.proofs.contents.put_group.Goals as goal

pub group_slots-k-end-requires : goal.group_slots-k-end-requires
group_slots-k-end-requires c =
    omega (arith, c.requires.group, named_long c.args.res.now.files c.args.plan.now.span c.args.plan.now c.requires.of_files.plan_is)

pub put_slot-requires-clause-slot : goal.put_slot-requires-clause-slot
put_slot-requires-clause-slot c =
    let read = slots_read c.args.res.now.files c.args.plan.now.span c.args.plan.now c.requires.of_files.plan_is c.args.group
    c.group_slots-k-end.result.now c.requires.group c.group_slots-k-end.ensures in
    let long = ap (λ (l : List SymbolId). length l) read in
    omega (arith, long, c.loop-k-test.true)

pub returns-clause-slotted : goal.returns-clause-slotted
returns-clause-slotted c =
    let files = c.args.res.now.files in
    let span = c.args.plan.now.span in
    let read = slots_read files span c.args.plan.now c.requires.of_files.plan_is c.args.group c.group_slots-k-end.result.now
    c.requires.group
    c.group_slots-k-end.ensures in
    let long = ap (λ (l : List SymbolId). length l) read in
    let all : c.loop-k.k ≡ length (group_slots files span c.args.group) = omega (arith, long, c.loop-k-test.false, c.loop-k.auto.k-end) in
    slot_group files span c.args.text.now.sections c.args.group (byte_of c.loop-k.memory)
    (subst (λ (k : ℕ). AreSlotted files span c.args.text.now.sections c.args.group k (byte_of c.loop-k.memory)) all
    c.loop-k.invariant.slotted)
