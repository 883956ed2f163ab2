-- Sets that are gathered in lists, one element after the other.
use Rattle.std.specs.Prelude.{ℕ, ◌<◌, ◌⊎◌, List}
use Rattle.std.specs.List.{Contains}

-- a list has the elements of another one, and those of which something holds, and no others
pub record Joins {X : Type 0} (P : X → Type 0) (old new : List X) : Type 0 where
  pub kept : (x : X) → Contains old x → Contains new x
  pub taken : (x : X) → P x → Contains new x
  pub only : (x : X) → Contains new x → Contains old x ⊎ P x

-- one of the first n facts holds
abbrev pub Before : {X : Type 0} → (ℕ → X → Type 0) → ℕ → X → Type 0
Before P n x = (k : ℕ) × (k < n) × P k x

-- what something holds of is taken in, but where it is known to be there already
pub record TakesIn {X : Type 0} (P : X → Type 0) (known : Type 0) (old new : List X) : Type 0 where
  pub kept : (x : X) → Contains old x → Contains new x
  pub taken : (x : X) → P x → Contains new x ⊎ known
  pub only : (x : X) → Contains new x → Contains old x ⊎ P x
