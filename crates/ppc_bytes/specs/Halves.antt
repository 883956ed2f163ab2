-- The parts of a number that instructions hold: #lo, #hi and #ha (ELFv2 ABI, "Relocation Notations"), and the two parts d0 and
-- d1 of a displacement in a prefixed instruction (Power ISA 3.1, "Instruction Formats").
use Rattle.std.specs.Prelude.{ℕ, ◌^◌, ◌-◌, ◌*◌, ◌/◌, ◌%◌, nat_lt, if◌then◌else◌, ℤ, pos, ◌+ℤ◌, ◌-ℤ◌}
use Rattle.std.specs.Int.{int_rem_euclid, int_div_euclid}
use Rattle.std.specs.Int.RustNames.{unsigned_abs}
use Rattle.ppc_bytes.specs.Bytes.{InSigned}

-- the lowest bits of a number in two's complement, as a natural number
abbrev pub low_of : ℕ → ℤ → ℕ
low_of bits x = unsigned_abs (int_rem_euclid x (pos (2 ^ bits)))

-- the signed number of so many bits that has these bits
abbrev pub signed_of : ℕ → ℕ → ℤ
signed_of bits n = (if nat_lt n (2 ^ (bits - 1)) then pos n else pos n -ℤ pos (2 ^ bits))

-- #lo: bits 0 to 15
abbrev pub lo : ℤ → ℕ
lo x = low_of 16 x

-- #hi: bits 16 to 31
abbrev pub hi : ℤ → ℕ
hi x = low_of 32 x / 2 ^ 16

-- #ha: bits 16 to 31 of x + 0x8000, so that #ha times 0x10000 and the signed #lo make x
abbrev pub ha : ℤ → ℕ
ha x = hi (x +ℤ pos 0x8000)

-- #ha before it is cut to 16 bits: x + 0x8000 divided by 0x10000, rounded down
abbrev pub whole_ha : ℤ → ℤ
whole_ha x = int_div_euclid (x +ℤ pos 0x8000) (pos 0x10000)

-- one signed half alone holds the number
abbrev pub IsSmall : ℤ → Type 0
IsSmall x = InSigned 16 x

-- d0, in the prefix: bits 16 to 33
abbrev pub d0 : ℤ → ℕ
d0 x = low_of 34 x / 2 ^ 16

-- d1, in the suffix: bits 0 to 15
abbrev pub d1 : ℤ → ℕ
d1 x = low_of 34 x % 2 ^ 16
