-- A step that was made says what it performed, and a leave performs nothing.
use Rattle.power_machine.proofs.Stepping.{left_is}
use Rattle.power_machine.proofs.laws.leaves_change_nothing.Goals as goal

pub returns-clause-left : goal.returns-clause-left
returns-clause-left c ranges old new reason at made = left_is made.next old new reason at made.performs

-- the same of one that lacks memory
pub returns-clause-memory : goal.returns-clause-memory
returns-clause-memory c ranges old new made = made.performs
