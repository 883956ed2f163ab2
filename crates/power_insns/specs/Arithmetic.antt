-- The functions of numbers that instructions compute (Power ISA 3.1, book I, "Fixed-Point Facility").
use Rattle.std.specs.Prelude.{ℕ, ℤ, pos, ◌+◌, ◌-◌, ◌*◌, ◌*ℤ◌, ◌/◌, ◌%◌, ◌^◌, Bool, false, not, ◌&&◌, ◌||◌, ◌==◌, nat_lt, nat_le, int_lt, int_div, if◌then◌else◌, bit_and, bit_or, bit_xor, List, [], ◌∷◌, Option, Some, None}
use Rattle.std.specs.Int.{w8, w16, w32, w64, cast_signed, cast_unsigned, bit_not, rotate_left}
use Rattle.power_insns.specs.declared.meaning.Width.{Width}
use Rattle.power_insns.specs.declared.meaning.Width.TheVariants.{Byte, Half, Word, Long}
use Rattle.power_insns.specs.declared.meaning.Sign.{Sign}
use Rattle.power_insns.specs.declared.meaning.Sign.TheVariants.{Unsigned, Signed}
use Rattle.power_insns.specs.declared.meaning.Function.{Function}
use Rattle.power_insns.specs.declared.meaning.Function.TheVariants.{Sum, RegisterSum, Difference, Product, WordProduct, BitAnd, BitAndNot, BitOr, BitNotOr, BitXor, ShiftWordLeft, ShiftWordRight, ShiftLeft, ShiftRight, Extend, Rotate, RotateWord}

-- how many bytes a number has
abbrev pub bytes_of : Width → ℕ
bytes_of Byte = 1
bytes_of Half = 2
bytes_of Word = 4
bytes_of Long = 8

-- a signed number as a register holds it
abbrev pub extended : ℤ → ℕ
extended z = cast_unsigned w64 z

-- the low bits of a register's number, so many as the width has, read by the sign
abbrev pub low_number : Width → Sign → ℕ → ℤ
low_number Byte Unsigned n = pos (n % 2 ^ 8)
low_number Half Unsigned n = pos (n % 2 ^ 16)
low_number Word Unsigned n = pos (n % 2 ^ 32)
low_number Long Unsigned n = pos n
low_number Byte Signed n = cast_signed w8 (n % 2 ^ 8)
low_number Half Signed n = cast_signed w16 (n % 2 ^ 16)
low_number Word Signed n = cast_signed w32 (n % 2 ^ 32)
low_number Long Signed n = cast_signed w64 n

-- the same number as a register holds it
abbrev pub widened : Width → Sign → ℕ → ℕ
widened width sign n = extended (low_number width sign n)

-- ones from bit `first` to bit `last` of a doubleword, where bit 0 is the most significant, round the end where first > last
abbrev pub mask : ℕ → ℕ → ℕ
mask first last = if nat_le first last then 2 ^ (64 - first) - 2 ^ (63 - last) else 2 ^ 64 - 1 - (2 ^ (63 - last) - 2 ^ (64 - first))

-- the low word in both halves
abbrev pub doubled : ℕ → ℕ
doubled n = n % 2 ^ 32 * 2 ^ 32 + n % 2 ^ 32

-- n * 2 ^ count in so many bits
abbrev pub shifted_left : ℕ → ℕ → ℕ → ℕ
shifted_left bits count n = if nat_lt count bits then n * 2 ^ count % 2 ^ bits else 0

abbrev pub shifted_right : ℕ → ℕ → ℕ → ℕ
shifted_right bits count n = if nat_lt count bits then n / 2 ^ count else 0

abbrev pub function_of : Function → ℕ → ℕ → ℕ
function_of Sum x y = (x + y) % 2 ^ 64
function_of RegisterSum x y = (x + y) % 2 ^ 64
function_of Difference x y = (x + (2 ^ 64 - y)) % 2 ^ 64
function_of Product x y = x * y % 2 ^ 64
function_of WordProduct x y = extended (low_number Word Signed x *ℤ low_number Word Signed y)
function_of BitAnd x y = bit_and x y
function_of BitAndNot x y = bit_and x (bit_not w64 y)
function_of BitOr x y = bit_or x y
function_of BitNotOr x y = bit_not w64 (bit_or x y)
function_of BitXor x y = bit_xor x y
function_of ShiftWordLeft x y = shifted_left 32 (y % 2 ^ 6) (x % 2 ^ 32)
function_of ShiftWordRight x y = shifted_right 32 (y % 2 ^ 6) (x % 2 ^ 32)
function_of ShiftLeft x y = shifted_left 64 (y % 2 ^ 7) x
function_of ShiftRight x y = shifted_right 64 (y % 2 ^ 7) x
function_of (Extend width) x y = widened width Signed x
function_of (Rotate count) x y = bit_and (rotate_left w64 x count) y
function_of (RotateWord count) x y = bit_and (rotate_left w64 (doubled x) count) y

-- x divided by y, towards zero; none where y is 0, and for signed numbers where the quotient would be 2 ^ 63
abbrev pub quotient : Sign → ℕ → ℕ → Option ℕ
quotient Unsigned x y = if y == 0 then None else Some (x / y)
quotient Signed x y =
    if y == 0 || (x == 2 ^ 63 && y == 2 ^ 64 - 1) then None else Some (extended (int_div (cast_signed w64 x) (cast_signed w64 y)))

-- the bits of a field of the condition register: less, greater, equal, and summary overflow, which is 0
abbrev pub order_bits : ℤ → ℤ → List Bool
order_bits a b = int_lt a b ∷ int_lt b a ∷ not (int_lt a b || int_lt b a) ∷ false ∷ []

-- the order of the low bits of x and y
abbrev pub compared : Width → Sign → ℕ → ℕ → List Bool
compared width sign x y = order_bits (low_number width sign x) (low_number width sign y)
