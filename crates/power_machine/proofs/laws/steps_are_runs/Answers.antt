-- It is so for every way of taking a step: steps are a run ..
use Rattle.power_machine.specs.Steps.{IsStep}
use Rattle.power_machine.specs.laws.Runs.{reached_steps, steps_reach}
use Rattle.power_machine.proofs.laws.steps_are_runs.Goals as goal

pub returns-clause-runs : goal.returns-clause-runs
returns-clause-runs c ranges n r u steps = steps_reach (IsStep ranges) n r u steps

-- .. and a run that hasn't left is steps.
pub returns-clause-steps : goal.returns-clause-steps
returns-clause-steps c ranges n r u reaches = reached_steps (IsStep ranges) n r u reaches
