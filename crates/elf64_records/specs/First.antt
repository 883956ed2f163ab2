-- The first fault in a stated order.
use Rattle.std.specs.Prelude.{◌≡◌, ℕ, zero, suc, ◌+◌, Bool, List, [], ◌∷◌, Option, Some, None, Result, Ok, Err, if◌then◌else◌}

-- the first of two
infixr 20 ◌orelse◌
abbrev pub ◌orelse◌ : {R : Type 0} → Option R → Option R → Option R
None orelse o = o
(Some r) orelse o = Some r

-- this fault, where a test holds
abbrev pub when : {R : Type 0} → Bool → R → Option R
when test r = if test then Some r else None

-- the first over so many numbers from n on
abbrev pub first_from : {R : Type 0} → (ℕ → Option R) → ℕ → ℕ → Option R
first_from f n zero = None
first_from f n (suc count) = f n orelse first_from f (n + 1) count

-- the first over a list
abbrev pub first_in : {X R : Type 0} → (X → Option R) → List X → Option R
first_in f [] = None
first_in f (x ∷ xs) = f x orelse first_in f xs

-- the answer of a check is exactly this fault
abbrev pub Refuses : {A R : Type 0} → Result A R → Option R → Type 0
Refuses (Ok a) o = o ≡ None
Refuses (Err r) o = o ≡ Some r
