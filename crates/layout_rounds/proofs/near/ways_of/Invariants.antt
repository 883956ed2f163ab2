use Rattle.layout_rounds.proofs.WaysStand.{AreWaysUpto}
use Rattle.layout_rounds.proofs.near.ways_of.Given as goal

-- the ways of the keys so far
abbrev pub invariant-loop-k : goal.invariant-loop-k
invariant-loop-k l = AreWaysUpto l.keyed l.shape.sites.items l.span l.k l.ways.items
