use Rattle.pcrel_rewrite.specs.inside.Words.{ArePassed}
use Rattle.pcrel_rewrite.proofs.words.all_are_passed.Given as goal

-- the access may be made before the first words
abbrev pub invariant-loop-k : goal.invariant-loop-k
invariant-loop-k l = ArePassed l.bytes l.from l.k l.uses
