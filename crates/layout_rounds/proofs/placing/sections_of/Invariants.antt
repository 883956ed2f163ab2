use Rattle.layout_rounds.specs.FarSets.{member}
use Rattle.layout_rounds.specs.inside.Placed.{AreSections}
use Rattle.layout_rounds.proofs.placing.sections_of.Given as goal

-- the addresses so far
abbrev pub invariant-loop-s : goal.invariant-loop-s
invariant-loop-s l = AreSections l.keyed (member l.far) l.s l.sections.items
