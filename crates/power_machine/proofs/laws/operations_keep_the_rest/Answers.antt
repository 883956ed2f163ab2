-- What operations keep over every kind of value, at numbers: a register that isn't written ..
use Rattle.power_machine.specs.Numbers.{numbers}
use Rattle.power_machine.specs.laws.Kept.{exec_keeps_register, exec_goes_on, exec_keeps_memory}
use Rattle.power_machine.proofs.laws.operations_keep_the_rest.Goals as goal

pub returns-clause-registers : goal.returns-clause-registers
returns-clause-registers c size may op s t r unwritten w = (exec_keeps_register numbers size may op s t r unwritten w).0

-- .. the place behind an operation that is no branch ..
pub returns-clause-place : goal.returns-clause-place
returns-clause-place c size may op s t straight w = exec_goes_on numbers size may op s t straight w

-- .. and memory, but for stores.
pub returns-clause-memory : goal.returns-clause-memory
returns-clause-memory c size may op s t unstored w = exec_keeps_memory numbers size may op s t unstored w
