use Rattle.link_engine.proofs.OneRun.{runs_are_one}
use Rattle.link_engine.proofs.laws.plain_runs_are_one.Goals as goal

-- files come to one thing without an image
pub returns : goal.returns
returns c = runs_are_one
