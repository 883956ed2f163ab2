use Rattle.pcrel_rewrite.specs.laws.Reach.{reaches}
use Rattle.pcrel_rewrite.proofs.laws.pairs_reach.Goals as goal

-- all addresses are below 0x60000000
pub returns : goal.returns
returns c = reaches
