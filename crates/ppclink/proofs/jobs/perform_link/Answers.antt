-- A file of the link that can't be read is named.
use Rattle.std.proofs.Common.{refl}
use Rattle.ppclink.proofs.Choosing.{counts_none}
use Rattle.ppclink.proofs.jobs.perform_link.Goals as goal

pub returns-in-Err-clause-steps : goal.returns-in-Err-clause-steps
returns-in-Err-clause-steps g c = counts_none _ _ _ _ _ refl
