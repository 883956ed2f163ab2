-- put_group-requires: the group is there. returns: the slots of all groups are filled.
use Rattle.std.proofs.Common.{ℕ, ◌≡◌, subst, arith}
use Rattle.toc_groups.specs.Groups.{group_count}
use Rattle.toc_groups.specs.inside.Filled.{AreSlotted}
use Rattle.toc_groups.specs.inside.Memory.{byte_of}
use Rattle.toc_groups.proofs.Reading.{named_long}
use Rattle.toc_groups.proofs.contents.put_slots.Goals as goal

pub put_group-requires-clause-group : goal.put_group-requires-clause-group
put_group-requires-clause-group c =
    let long = named_long c.args.res.now.files c.args.plan.now.span c.args.plan.now c.requires.of_files.plan_is in
    omega (arith, long, c.group_count-group-end.ensures, c.loop-group-test.true)

pub returns-clause-slotted : goal.returns-clause-slotted
returns-clause-slotted c =
    let files = c.args.res.now.files in
    let span = c.args.plan.now.span in
    let long = named_long files span c.args.plan.now c.requires.of_files.plan_is in
    let all : c.loop-group.group ≡ group_count files span =
    omega (arith, long, c.group_count-group-end.ensures, c.loop-group-test.false, c.loop-group.auto.group-end) in
    subst (λ (g : ℕ). AreSlotted files span c.args.text.now.sections g 0 (byte_of c.loop-group.memory)) all c.loop-group.invariant.slotted
