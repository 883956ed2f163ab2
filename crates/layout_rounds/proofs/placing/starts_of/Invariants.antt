use Rattle.layout_rounds.specs.FarSets.{member}
use Rattle.layout_rounds.proofs.Placements.{AreStartsUpto}
use Rattle.layout_rounds.proofs.placing.starts_of.Given as goal

-- the starts so far
abbrev pub invariant-loop-g : goal.invariant-loop-g
invariant-loop-g l = AreStartsUpto l.keyed (member l.far) l.g l.groups.items l.areas.items l.top
