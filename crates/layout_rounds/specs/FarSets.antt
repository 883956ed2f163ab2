-- Sets of keys: a set is a test of their numbers.
use Rattle.std.specs.Prelude.{◌≡◌, ℕ, zero, suc, ◌+◌, List, Bool, true, false, if◌then◌else◌}
use Rattle.std.specs.List.{slice_index_or}

-- the set for which a list of flags stands
abbrev pub member : List Bool → ℕ → Bool
member far k = slice_index_or far k false

-- one set is contained in another
infix 8 ◌⊆◌
abbrev pub ◌⊆◌ : (ℕ → Bool) → (ℕ → Bool) → Type 0
F ⊆ G = (k : ℕ) → F k ≡ true → G k ≡ true

-- how many of the first n keys are in F
abbrev pub count : (ℕ → Bool) → ℕ → ℕ
count F zero = 0
count F (suc n) = count F n + (if F n then 1 else 0)
