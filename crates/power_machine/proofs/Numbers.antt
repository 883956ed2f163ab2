-- Bytes of the machine of numbers are numbers.
use Rattle.std.proofs.Common.{◌≡◌, ℕ, List, [], ◌∷◌, map, Some, refl, ap}
use Rattle.power_machine.specs.Calls.{numbers_in, with_number}
use Rattle.power_machine.specs.Numbers.{numbers}

pub map-itself : (xs : List ℕ) → map (λ n. n) xs ≡ xs
map-itself [] = refl
map-itself (x ∷ xs) = ap (λ ys. x ∷ ys) (map-itself xs)

pub numbers_in-itself : (xs : List ℕ) → numbers_in numbers xs ≡ Some xs
numbers_in-itself [] = refl
numbers_in-itself (x ∷ xs) = ap (with_number (Some x)) (numbers_in-itself xs)
