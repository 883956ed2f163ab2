use Rattle.std.proofs.Common.{ℕ, ◌-◌, ◌<◌, ◌≤◌, length, get_or}
use Rattle.power_machine.specs.declared.memory.Region.{Region}
use Rattle.power_machine.proofs.memory.begun_by.Given as goal

-- those in front of `low` begin at or below, those from `high` on behind
abbrev pub invariant-loop-low : goal.invariant-loop-low
invariant-loop-low l = record {
  apart : l.low ≤ l.high;
  within : l.high ≤ length l.regions;
  begun : (i : ℕ) (d : Region) → i < l.low → (get_or l.regions i d).start ≤ l.at;
  ahead : (i : ℕ) (d : Region) → l.high ≤ i → i < length l.regions → l.at < (get_or l.regions i d).start;
}

abbrev pub decreases-loop-low : goal.decreases-loop-low
decreases-loop-low l = l.high - l.low
