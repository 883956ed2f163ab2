-- How a name finds its number: in one of the eight slots from its hash on, or else in an ordered map.
use Rattle.std.specs.Prelude.{◌≡◌, ◌≢◌, ◌<◌, ◌≤◌, ℕ, ◌+◌, ◌-◌, ◌*◌, ◌%◌, ◌^◌, ◌⊎◌, List, Some, length, fold, slice_get, slice_index, bit_xor}
use Rattle.std.specs.Borrow.{Bor}
use Rattle.std.specs.BTreeMap.{BTreeMap, get_by}
use Rattle.std.specs.Cmp.Lexicographic.{slice_cmp}
use Rattle.std.specs.Ordering.{nat_cmp}

-- the 64 bits of FNV-1a
abbrev pub name_hash : List ℕ → ℕ
name_hash name = fold (λ h byte. (bit_xor h byte * 0x100000001B3) % 2 ^ 64) 0xCBF29CE484222325 name

-- where the slots of a name begin, of so many
abbrev pub first_slot : ℕ → List ℕ → ℕ
first_slot count name = name_hash name % (count - 7)

-- the slots before slot i are taken
abbrev pub AreTaken : List ℕ → ℕ → ℕ → Type 0
AreTaken slots start i = (j : ℕ) → j < i → slice_index slots (start + j) ≢ 0

-- slot i is the first one that is empty
pub record IsFree (slots : List ℕ) (start i : ℕ) : Type 0 where
  pub near : i < 8
  pub taken : AreTaken slots start i
  pub empty : slice_index slots (start + i) ≡ 0

-- one of the slots holds number k
pub record IsSlotted (slots : List ℕ) (start k : ℕ) : Type 0 where
  pub slot : ℕ
  pub near : slot < 8
  pub taken : AreTaken slots start slot
  pub holds : slice_index slots (start + slot) ≡ k + 1

-- the map gives number k
abbrev pub IsInCrowd : BTreeMap (Bor (List ℕ)) ℕ → List ℕ → ℕ → Type 0
IsInCrowd crowd name k = get_by (λ q. slice_cmp nat_cmp name q.now) crowd ≡ Some k

-- name k is found
abbrev pub IsFound : List ℕ → BTreeMap (Bor (List ℕ)) ℕ → List ℕ → ℕ → Type 0
IsFound slots crowd name k = IsSlotted slots (first_slot (length slots) name) k ⊎ IsInCrowd crowd name k

-- each name is found
pub record IsIndex (names : List (List ℕ)) (slots : List ℕ) (crowd : BTreeMap (Bor (List ℕ)) ℕ) : Type 0 where
  pub room : 8 ≤ length slots
  pub found : (k : ℕ) (name : List ℕ) → slice_get names k ≡ Some name → IsFound slots crowd name k

-- no slot of a name holds its number
abbrev pub IsInNoSlot : List (List ℕ) → List ℕ → ℕ → List ℕ → Type 0
IsInNoSlot names slots start name = (k : ℕ) → IsSlotted slots start k → slice_get names k ≢ Some name

-- nor does one of the first i slots, which are taken
pub record ArePassed (names : List (List ℕ)) (slots : List ℕ) (start : ℕ) (name : List ℕ) (i : ℕ) : Type 0 where
  pub taken : AreTaken slots start i
  pub others : (j k : ℕ) → j < i → slice_index slots (start + j) ≡ k + 1 → slice_get names k ≢ Some name
