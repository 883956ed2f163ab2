use Rattle.layout_rounds.specs.FarSets.{member}
use Rattle.layout_rounds.specs.inside.Placed.{AreAreas}
use Rattle.layout_rounds.proofs.placing.areas_of.Given as goal

-- the stubs so far
abbrev pub invariant-loop-k : goal.invariant-loop-k
invariant-loop-k l = AreAreas l.keyed (member l.far) l.k l.offsets.items l.bytes.items
