use Rattle.pcrel_rewrite.specs.laws.Pairs.{one_tail, one_pair_at}
use Rattle.pcrel_rewrite.proofs.laws.loads_have_one_access.Goals as goal

-- a text section has one place
pub returns-clause-place : goal.returns-clause-place
returns-clause-place c = one_pair_at

-- the first access would be read over
pub returns-clause-words : goal.returns-clause-words
returns-clause-words c = one_tail
