-- Each step is one, so each run is ..
use Rattle.power_machine.specs.laws.Steps.{one_progress_in, one_run}
use Rattle.power_machine.proofs.laws.runs_are_one.Goals as goal

pub returns-clause-runs : goal.returns-clause-runs
returns-clause-runs c = one_progress_in

-- .. and a file loads as one program.
pub returns-clause-files : goal.returns-clause-files
returns-clause-files c = one_run
