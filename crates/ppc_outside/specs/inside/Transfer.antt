-- What the loops over a reader and a writer have moved.
use Rattle.std.specs.Prelude.{ℕ, ◌+◌, ◌≡◌, ◌<◌, ◌≤◌, List, ◌++◌, length, take, Option, IfSome}
use Rattle.std.specs.Io.KnownBytes.{Consumes, Appends, IsAtEnd}

-- bytes were appended, at most so many; where what the reader had left is known, they are its first bytes, as many as there are
pub record AppendsFront (known : Option (List ℕ)) (limit : ℕ) (old new : List ℕ) : Type 0 where
  pub bytes : List ℕ
  pub within : length bytes ≤ limit
  pub appended : new ≡ old ++ bytes
  pub all : IfSome known (λ rest. bytes ≡ take limit rest)

-- bytes were appended in at most so many turns as the limit says, each of which took a byte, but perhaps the last
pub record IsBrief (limit turns : ℕ) (old new : List ℕ) : Type 0 where
  pub few : turns ≤ limit
  pub moves : length old + turns ≤ length new + 1

-- one read appended so many bytes and took them from the reader; none only at its end, where there was room
pub record AppendsSome (known left : Option (List ℕ)) (room count : ℕ) (old new : List ℕ) : Type 0 where
  pub bytes : List ℕ
  pub size : length bytes ≡ count
  pub within : count ≤ room
  pub appended : new ≡ old ++ bytes
  pub taken : Consumes known left bytes
  pub ended : count ≡ 0 → 0 < room → IsAtEnd left

-- so many turns appended so many bytes and took them from the reader, each at least one
pub record HasTaken (known left : Option (List ℕ)) (turns count : ℕ) (old new : List ℕ) : Type 0 where
  pub bytes : List ℕ
  pub size : length bytes ≡ count
  pub moves : turns ≤ count
  pub appended : new ≡ old ++ bytes
  pub taken : Consumes known left bytes

-- a writer took the first so many of the bytes
abbrev pub AppendsPart : Option (List ℕ) → Option (List ℕ) → List ℕ → Type 0
AppendsPart old new bytes = (count : ℕ) × Appends old new (take count bytes)
