-- Words as lists of fields, the most significant first (Power ISA 3.1, book I, "Instruction Formats").
use Rattle.std.specs.Prelude.{◌≡◌, ℕ, ℤ, pos, neg_ℤ, ◌*◌, ◌+◌, ◌-◌, ◌^◌, ◌<◌, ◌≤ℤ◌, ◌<ℤ◌, Bool, true, false, List, [], ◌∷◌}
use Rattle.std.specs.Int.{int_rem_euclid}
use Rattle.std.specs.Int.RustNames.{unsigned_abs}

-- a field: what it holds, and its number of bits
pub record Field : Type 0 where
  pub value : ℕ
  pub bits : ℕ

abbrev pub fld : ℕ → ℕ → Field
fld bits value = record { value = value; bits = bits }

-- the number that fields spell behind what stands in front of them
abbrev pub word_from : ℕ → List Field → ℕ
word_from front [] = front
word_from front (f ∷ fs) = word_from (front * 2 ^ f.bits + f.value) fs

abbrev pub word : List Field → ℕ
word fs = word_from 0 fs

-- the number of bits of a layout
abbrev pub total_bits : List Field → ℕ
total_bits [] = 0
total_bits (f ∷ fs) = f.bits + total_bits fs

-- what each field holds fits its bits
abbrev pub EachHolds : List Field → Type 0
EachHolds [] = Unit {0}
EachHolds (f ∷ fs) = (f.value < 2 ^ f.bits) × EachHolds fs

-- a field of one bit
abbrev pub flag : Bool → ℕ
flag true = 1
flag false = 0

-- the lowest bits of a signed number, in two's complement
abbrev pub low_of : ℕ → ℤ → ℕ
low_of bits z = unsigned_abs (int_rem_euclid z (pos (2 ^ bits)))

-- z is a signed number of so many bits
pub record InSigned (bits : ℕ) (z : ℤ) : Type 0 where
  pub low : neg_ℤ (pos (2 ^ (bits - 1))) ≤ℤ z
  pub high : z <ℤ pos (2 ^ (bits - 1))

-- z is such a number and a multiple of 4
abbrev pub IsDisplacement : ℕ → ℤ → Type 0
IsDisplacement bits z = InSigned bits z × (int_rem_euclid z (pos 4) ≡ pos 0)
