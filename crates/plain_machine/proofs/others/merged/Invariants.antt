-- The cells before a turn's are merged, and the others are the doubleword's own.
use Rattle.std.proofs.Common.{◌≡◌, ◌*◌, ◌<◌, ◌≤◌, ℕ, Some, length}
use Rattle.plain_machine.specs.inside.Others.{entry_in, merged_at}
use Rattle.plain_machine.proofs.others.merged.Given as goal

abbrev pub invariant-loop-k : goal.invariant-loop-k
invariant-loop-k l = record {
  size : length l.new ≡ 8;
  done : (j : ℕ) → j < l.k → entry_in (Some l.new) j ≡ merged_at (entry_in (Some l.fn.own)) (8 * l.number) l.at l.cells j;
  rest : (j : ℕ) → l.k ≤ j → entry_in (Some l.new) j ≡ entry_in (Some l.fn.own) j;
}
