-- How far a pair reaches.
use Rattle.std.proofs.Common.{ℕ, ℤ, pos, ◌<◌, arith}
use Rattle.std.specs.Prelude.{◌+ℤ◌, ◌-ℤ◌}
use Rattle.std.proofs.lemmas.Int.{ints}
use Rattle.power_insns.specs.Words.{InSigned}

-- from one address of an image to another, and a displacement of 16 bits on, it is less than 34 bits
pub reaches : (symbol place : ℕ) (disp : ℤ) → symbol < 0x60000000 → place < 0x60000000 → InSigned 16 disp →
    InSigned 34 ((pos symbol +ℤ disp) -ℤ pos place)
reaches symbol place disp below here fits =
    let low = fits.low in
    let high = fits.high in
    record { low = omega (arith, ints); high = omega (arith, ints) }
