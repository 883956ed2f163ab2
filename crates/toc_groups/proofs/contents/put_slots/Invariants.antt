use Rattle.std.proofs.Common.{◌≡◌}
use Rattle.toc_groups.specs.inside.Filled.{AreSlotted}
use Rattle.toc_groups.specs.inside.Memory.{byte_of}
use Rattle.toc_groups.proofs.contents.put_slots.Given as goal

-- the slots of the first groups are filled
abbrev pub invariant-loop-group : goal.invariant-loop-group
invariant-loop-group l = record {
  ends : l.memory.ends ≡ l.plan.ends;
  slotted : AreSlotted l.res.files l.plan.span l.text.sections l.group 0 (byte_of l.memory);
}
