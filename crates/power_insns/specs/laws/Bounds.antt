-- How large the parts of a word are, for proofs about words of fields.
use Rattle.std.proofs.Common.{ℕ, ℤ, pos, negsuc, ◌<◌, ◌^◌, Bool, true, false, arith}
use Rattle.std.proofs.lemmas.Nat.{pow_pos, mod_below}
use Rattle.power_insns.specs.Words.{low_of, flag}

pub low_of-lt : (bits : ℕ) (z : ℤ) → low_of bits z < 2 ^ bits
low_of-lt bits (pos n) = mod_below n (2 ^ bits) (pow_pos bits)
low_of-lt bits (negsuc n) = let p = pow_pos bits in omega arith

pub flag-lt : (b : Bool) → flag b < 2
flag-lt true = omega arith
flag-lt false = omega arith
