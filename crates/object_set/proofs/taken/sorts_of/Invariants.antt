use Rattle.object_set.specs.inside.Sorts.{AreSorts}
use Rattle.object_set.proofs.taken.sorts_of.Given as goal

-- the sorts of the first sections are kept
abbrev pub invariant-loop-section : goal.invariant-loop-section
invariant-loop-section l = AreSorts l.view l.section l.sorts.items
