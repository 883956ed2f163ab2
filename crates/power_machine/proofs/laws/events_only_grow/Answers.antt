-- Every operation and every call adds events at the end, or none.
use Rattle.power_machine.specs.laws.Steps.{steps_grow}
use Rattle.power_machine.proofs.laws.events_only_grow.Goals as goal

pub returns : goal.returns
returns c = steps_grow
