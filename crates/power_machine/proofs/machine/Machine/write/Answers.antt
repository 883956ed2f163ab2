-- The bytes in memory are numbers, so a write that is allowed takes them.
use Rattle.std.proofs.Common.{rules}
use Rattle.power_machine.proofs.Numbers.{numbers_in-itself}
use Rattle.power_machine.proofs.machine.Machine.write.Goals as goal

pub returns-clause-performs : goal.returns-clause-performs
returns-clause-performs c = simp numbers_in-itself (search rules)
