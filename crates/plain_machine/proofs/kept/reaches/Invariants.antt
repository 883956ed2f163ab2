-- How far the first ranges reach is known for each number of them so far.
use Rattle.std.proofs.Common.{◌≡◌, ◌+◌, ◌≤◌, ℕ, Some, length, take, slice_get}
use Rattle.std.specs.List.{fold}
use Rattle.plain_machine.specs.inside.Kept.{farther}
use Rattle.plain_machine.proofs.kept.reaches.Given as goal

abbrev pub invariant-loop-range : goal.invariant-loop-range
invariant-loop-range l =
    (l.reach ≡ fold farther 0 (take l.range-index l.fn.ranges)) × (length l.reaches.items ≡ l.range-index + 1)
    × ((n : ℕ) → n ≤ l.range-index → slice_get l.reaches.items n ≡ Some (fold farther 0 (take n l.fn.ranges)))
