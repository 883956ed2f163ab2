-- The bytes from a turn's on are all numbers exactly where all are.
use Rattle.std.proofs.Common.{◌≡◌, ◌+◌, ◌-◌}
use Rattle.plain_machine.specs.inside.Others.{other_at, are_numbers}
use Rattle.plain_machine.proofs.others.Others.are_all_numbers.Given as goal

abbrev pub invariant-loop-k : goal.invariant-loop-k
invariant-loop-k l = are_numbers (other_at l.self) (l.at + l.k) (l.count - l.k) ≡ are_numbers (other_at l.self) l.at l.count
