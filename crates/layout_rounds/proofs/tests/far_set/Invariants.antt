use Rattle.std.proofs.Common.{◌≡◌, length}
use Rattle.layout_rounds.proofs.tests.far_set.Given as goal

-- the set has room for every key
abbrev pub invariant-loop-key : goal.invariant-loop-key
invariant-loop-key l = length l.set ≡ length l.keyed.keys
