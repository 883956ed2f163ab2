use Rattle.ppc_archive.specs.laws.OneJob.{chooses_once}
use Rattle.ppc_archive.proofs.laws.files_are_chosen_once.Goals as goal

-- files come to one thing
pub returns : goal.returns
returns c = chooses_once
