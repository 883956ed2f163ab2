use Rattle.layout_rounds.specs.FarSets.{member}
use Rattle.layout_rounds.specs.inside.Placed.{AreStubs}
use Rattle.layout_rounds.proofs.placing.stubs_of.Given as goal

-- the addresses so far
abbrev pub invariant-loop-k : goal.invariant-loop-k
invariant-loop-k l = AreStubs l.keyed (member l.far) l.k l.stubs.items
