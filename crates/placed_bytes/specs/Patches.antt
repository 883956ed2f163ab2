-- Bytes that are put at places of a list of bytes, as sections and the fields of relocation records are into an image.
use Rattle.std.specs.Prelude.{ℕ, ◌≡◌, ◌+◌, ◌≤◌, ◌⊎◌, List, ◌++◌, All, AllPairs, fold, length, take, drop}
use Rattle.byteorder.specs.Endian.{little_bytes}

-- bytes, and the place of the first
pub record Patch : Type 0 where
  pub at : ℕ
  pub bytes : List ℕ

-- the place behind the last
abbrev pub end_of : Patch → ℕ
end_of p = p.at + length p.bytes

-- a number of n bytes at a place, the lowest byte first
abbrev pub number_patch : ℕ → ℕ → ℕ → Patch
number_patch n at x = record { at = at; bytes = little_bytes n x }

-- n bytes from a place on
abbrev pub part : ℕ → ℕ → List ℕ → List ℕ
part at n b = take n (drop at b)

-- the list with a patch in the place of as many of its bytes
abbrev pub patched : List ℕ → Patch → List ℕ
patched b p = take p.at b ++ (p.bytes ++ drop (end_of p) b)

-- with several, put one after the other
abbrev pub all_patched : List ℕ → List Patch → List ℕ
all_patched b ps = fold patched b ps

-- a patch has none of n bytes from a place on
abbrev pub IsBeside : ℕ → ℕ → Patch → Type 0
IsBeside at n p = (end_of p ≤ at) ⊎ (at + n ≤ p.at)

-- two patches have no place in common
abbrev pub AreApart : Patch → Patch → Type 0
AreApart p q = IsBeside p.at (length p.bytes) q

-- patches lie within so many bytes, and no two have a place in common
pub record ArePlaced (size : ℕ) (ps : List Patch) : Type 0 where
  pub within : All (λ p. end_of p ≤ size) ps
  pub apart : AllPairs AreApart ps

-- one list is another with patches: the bytes of each patch stand at its place, and each part beside all of them is as it was
pub record IsPatched (old : List ℕ) (ps : List Patch) (new : List ℕ) : Type 0 where
  pub size : length new ≡ length old
  pub put : All (λ p. part p.at (length p.bytes) new ≡ p.bytes) ps
  pub kept : (at n : ℕ) → All (IsBeside at n) ps → part at n new ≡ part at n old
