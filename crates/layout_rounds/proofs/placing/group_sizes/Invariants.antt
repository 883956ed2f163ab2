use Rattle.layout_rounds.specs.inside.Placed.{AreSizes}
use Rattle.layout_rounds.proofs.placing.group_sizes.Given as goal

-- the sizes of the sections so far
abbrev pub invariant-loop-s : goal.invariant-loop-s
invariant-loop-s l = AreSizes l.keyed l.s l.sizes.items
