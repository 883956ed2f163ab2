-- returns: halves of a number in reach, and the low half of a small one.
use Rattle.toc_rewrite.specs.laws.Reach.{halves_reach, small_reaches}
use Rattle.toc_rewrite.proofs.laws.halves_reach.Goals as goal

pub returns-clause-both : goal.returns-clause-both
returns-clause-both c = halves_reach

pub returns-clause-small : goal.returns-clause-small
returns-clause-small c = small_reaches
