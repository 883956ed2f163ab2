use Rattle.std.proofs.Common.{◌≡◌}
use Rattle.layout_rounds.specs.FarSets.{member}
use Rattle.layout_rounds.specs.Layout.{stubs_end}
use Rattle.layout_rounds.proofs.placing.stubs_end.Given as goal

-- the greatest end so far
abbrev pub invariant-loop-k : goal.invariant-loop-k
invariant-loop-k l = l.end ≡ stubs_end l.keyed (member l.far) l.k
