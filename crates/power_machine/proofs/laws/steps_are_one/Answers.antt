-- At most one thing stands at an address, so a run has one step.
use Rattle.power_machine.specs.Steps.{IsStep}
use Rattle.power_machine.specs.laws.Runs.{one_step}
use Rattle.power_machine.specs.laws.Steps.{steps_once}
use Rattle.power_machine.proofs.laws.steps_are_one.Goals as goal

pub returns : goal.returns
returns c ranges r s t h k = one_step (IsStep ranges) (steps_once ranges) r s t h k
