use Rattle.std.proofs.Common.{◌≡◌}
use Rattle.layout_rounds.specs.FarSets.{member}
use Rattle.layout_rounds.specs.Layout.{sections_end}
use Rattle.layout_rounds.proofs.placing.sections_end.Given as goal

-- the greatest end so far
abbrev pub invariant-loop-s : goal.invariant-loop-s
invariant-loop-s l = l.end ≡ sections_end l.keyed (member l.far) l.s
