-- In the doublewords before a turn's the bytes are numbers; all others are as they were.
use Rattle.std.proofs.Common.{◌≡◌, ◌⊎◌, ◌+◌, ◌/◌, ◌<◌, ◌≤◌, ℕ, true}
use Rattle.plain_machine.specs.inside.Others.{other_at, is_number}
use Rattle.plain_machine.proofs.others.Others.clear.Given as goal

abbrev pub invariant-loop-number : goal.invariant-loop-number
invariant-loop-number l = record {
  inside : (a : ℕ) → l.at ≤ a → a < l.at + l.count → a / 8 < l.number → is_number (other_at l.self a) ≡ true;
  outside : (a : ℕ) → (a < l.at) ⊎ (l.at + l.count ≤ a) → other_at l.self a ≡ other_at l.fn.self a;
}
