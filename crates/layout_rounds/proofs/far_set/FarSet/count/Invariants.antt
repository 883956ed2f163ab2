use Rattle.std.proofs.Common.{◌≡◌}
use Rattle.layout_rounds.specs.FarSets.{count, member}
use Rattle.layout_rounds.proofs.far_set.FarSet.count.Given as goal

-- how many of the keys so far are in the set
abbrev pub invariant-loop-k : goal.invariant-loop-k
invariant-loop-k l = l.count ≡ count (member l.self) l.k
