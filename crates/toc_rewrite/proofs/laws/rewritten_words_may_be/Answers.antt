-- returns: a word that is rewritten.
use Rattle.toc_rewrite.specs.laws.Rewritten.{rewritten_may}
use Rattle.toc_rewrite.proofs.laws.rewritten_words_may_be.Goals as goal

pub returns : goal.returns
returns c = rewritten_may
