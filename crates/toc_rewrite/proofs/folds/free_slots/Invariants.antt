use Rattle.std.proofs.Common.{◌≡◌, filter, take}
use Rattle.toc_rewrite.specs.inside.Slots.{is_free}
use Rattle.toc_rewrite.proofs.folds.free_slots.Given as goal

-- those of the first slots are here
abbrev pub invariant-loop-slot : goal.invariant-loop-slot
invariant-loop-slot l = l.free.items ≡ filter (is_free l.orderly l.uses) (take l.slot-index l.slots)
