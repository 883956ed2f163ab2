use Rattle.layout_rounds.specs.inside.Ways.{AreEnds}
use Rattle.layout_rounds.proofs.near.ends_of.Given as goal

-- the ends of the keys of the calls so far
abbrev pub invariant-loop-i : goal.invariant-loop-i
invariant-loop-i l = AreEnds l.numbers l.i l.ends.items
