use Rattle.std.proofs.Common.{◌≡◌}
use Rattle.toc_groups.specs.inside.Filled.{AreSlotted}
use Rattle.toc_groups.specs.inside.Memory.{byte_of}
use Rattle.toc_groups.proofs.contents.put_group.Given as goal

-- the first slots of the group are filled
abbrev pub invariant-loop-k : goal.invariant-loop-k
invariant-loop-k l = record {
  ends : l.memory.ends ≡ l.plan.ends;
  slotted : AreSlotted l.res.files l.plan.span l.text.sections l.group l.k (byte_of l.memory);
}
