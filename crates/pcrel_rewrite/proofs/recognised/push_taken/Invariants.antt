use Rattle.pcrel_rewrite.specs.inside.Joins.{Joins, Before}
use Rattle.pcrel_rewrite.specs.inside.Recognised.{TakenAt}
use Rattle.pcrel_rewrite.proofs.recognised.push_taken.Given as goal

-- of the first pairs those that are taken stand behind the others
abbrev pub invariant-loop-i : goal.invariant-loop-i
invariant-loop-i l = Joins (Before (TakenAt l.resolved.files l.asked l.loads) l.i) l.initial.found.items l.found.items
