-- How many keys are in a set.
use Rattle.std.proofs.Common.{ℕ, zero, suc, ◌≤◌, Bool, true, false, arith, if◌then◌else◌}
use Rattle.layout_rounds.specs.FarSets.{count}

at_most_one : (b : Bool) → (if b then 1 else 0) ≤ 1
at_most_one true = omega arith
at_most_one false = omega arith

pub count_most : (F : ℕ → Bool) (n : ℕ) → count F n ≤ n
count_most F zero = omega arith
count_most F (suc n) = omega (arith, count_most F n, at_most_one (F n))
