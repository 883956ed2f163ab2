use Rattle.std.proofs.Common.{◌≡◌, ◌*◌}
use Rattle.object_set.specs.inside.Rows.{IsRow}
use Rattle.toc_groups.specs.declared.slots.TheConstants.{SLOT_SIZE}
use Rattle.toc_groups.proofs.toc_ends.TocEnds.none.Given as goal

-- the ends behind so many slots alone
abbrev pub invariant-loop-slots : goal.invariant-loop-slots
invariant-loop-slots l = IsRow (λ i end. end ≡ SLOT_SIZE * i) l.slots l.ends.items
