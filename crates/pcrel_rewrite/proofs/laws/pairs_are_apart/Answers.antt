use Rattle.pcrel_rewrite.specs.laws.Pairs.{pairs_apart}
use Rattle.pcrel_rewrite.proofs.laws.pairs_are_apart.Goals as goal

-- the later load would be a field of the earlier pair
pub returns : goal.returns
returns c = pairs_apart
