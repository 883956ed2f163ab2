use Rattle.std.proofs.Common.{◌≡◌}
use Rattle.layout_rounds.specs.Shapes.{unit_upto}
use Rattle.layout_rounds.proofs.grouping.unit_of.Given as goal

-- the unit of the sections so far
abbrev pub invariant-loop-s : goal.invariant-loop-s
invariant-loop-s l = l.unit ≡ unit_upto l.sections l.s
