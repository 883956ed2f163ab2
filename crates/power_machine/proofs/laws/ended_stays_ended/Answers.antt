-- It is so for every way of taking a step.
use Rattle.power_machine.specs.Steps.{IsStep}
use Rattle.power_machine.specs.laws.Runs.{ended_step}
use Rattle.power_machine.proofs.laws.ended_stays_ended.Goals as goal

pub returns : goal.returns
returns c ranges r s status ended steps = ended_step (IsStep ranges) r s status ended steps
