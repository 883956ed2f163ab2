-- The halves of a number put together again, and what tells small numbers and displacements apart.
use Rattle.std.proofs.Common.{ℕ, ◌≡◌, ◌<◌, ◌%◌, ◌^◌, ◌-◌, ◌+◌, ◌*◌, ◌/◌, ◌↔◌, nat_lt, if◌then◌else◌, negsuc, zero, suc, ◌≤◌, ⊎_elim, ap, ◌∙◌, sym, refl, arith}
use Rattle.std.specs.Prelude.{ℤ, pos, ◌+ℤ◌, ◌-ℤ◌, ◌*ℤ◌}
use Rattle.std.proofs.lemmas.Int.{ints}
use Rattle.std.proofs.lemmas.Bool.{cases_lt}
use Rattle.std.proofs.lemmas.Bool.Decides.{nat_tests}
use Rattle.std.proofs.Math.Nat.{pow-suc, mod-eq_of_lt}
use Rattle.std.proofs.lemmas.Nat.{div-add-mod', mod_below, pow_pos}
use Rattle.std.specs.Int.{int_rem_euclid, int_div_euclid}
use Rattle.std.specs.Int.RustNames.{unsigned_abs}
use Rattle.ppc_bytes.specs.Bytes.{InSigned}
use Rattle.ppc_bytes.specs.Halves.{low_of, signed_of, lo, hi, ha, whole_ha, IsSmall, d0, d1}

-- a number is its quotient and its lowest bits
pub low_of-rest : (bits : ℕ) (x : ℤ) → int_div_euclid x (pos (2 ^ bits)) *ℤ pos (2 ^ bits) +ℤ pos (low_of bits x) ≡ x
low_of-rest bits (pos a) =
    let whole : a / 2 ^ bits * 2 ^ bits + a % 2 ^ bits ≡ a = div-add-mod' a (2 ^ bits) in omega (arith, ints)
low_of-rest bits (negsuc a) =
    let whole : a / 2 ^ bits * 2 ^ bits + a % 2 ^ bits ≡ a = div-add-mod' a (2 ^ bits) in
    let below : a % 2 ^ bits < 2 ^ bits = mod_below a (2 ^ bits) (pow_pos bits) in omega (arith, ints)

-- the lowest bits are below their limit
pub low_of-lt : (bits : ℕ) (x : ℤ) → low_of bits x < 2 ^ bits
low_of-lt bits (pos a) = mod_below a (2 ^ bits) (pow_pos bits)
low_of-lt bits (negsuc a) = let above = pow_pos bits in omega arith

-- #ha is the lowest 16 bits of the whole one
pub ha-low_of : (x : ℤ) → ha x ≡ low_of 16 (whole_ha x)
ha-low_of x =
    let y : ℤ = x +ℤ pos 0x8000 in
    let far = low_of-rest 32 y in
    let near = low_of-rest 16 y in
    let top = low_of-rest 16 (int_div_euclid y (pos (2 ^ 16))) in
    let far_below = low_of-lt 32 y in
    let near_below = low_of-lt 16 y in
    let top_below = low_of-lt 16 (int_div_euclid y (pos (2 ^ 16))) in
    omega (arith, ints)

-- two signed halves that hold #ha and #lo of a number make it
pub halves_joined : (x high low : ℤ) → InSigned 32 (x +ℤ pos 0x8000) → InSigned 16 high → InSigned 16 low →
    low_of 16 high ≡ ha x → low_of 16 low ≡ lo x → high *ℤ pos 0x10000 +ℤ low ≡ x
halves_joined x high low fits in_high in_low same_high same_low =
    let a = low_of-rest 32 (x +ℤ pos 0x8000) in
    let b = low_of-rest 16 x in
    let c = low_of-rest 16 high in
    let d = low_of-rest 16 low in
    let a' = low_of-lt 32 (x +ℤ pos 0x8000) in
    let b' = low_of-lt 16 x in
    omega (arith, ints)

-- a power of two is twice the one before
half_of : (bits : ℕ) → 0 < bits → 2 ^ bits ≡ 2 ^ (bits - 1) * 2
half_of zero some = absurd (omega arith)
half_of (suc n) some = let before : suc n - 1 ≡ n = omega arith in rw before (pow-suc 2 n)

-- a signed number of some bits is at least 0 where its highest bit is 0
signed_of-low : (bits n : ℕ) → n < 2 ^ (bits - 1) → signed_of bits n ≡ pos n
signed_of-low bits n below = grind (arith, nat_tests)

-- and below 0 where it is 1
signed_of-high : (bits n : ℕ) → 2 ^ (bits - 1) ≤ n → signed_of bits n ≡ pos n -ℤ pos (2 ^ bits)
signed_of-high bits n above = grind (arith, nat_tests)

-- the signed number of some bits fits them and has them
pub signed_of-InSigned : (bits n : ℕ) → 0 < bits → n < 2 ^ bits → InSigned bits (signed_of bits n)
signed_of-InSigned bits n some below =
    let half = half_of bits some in
    ⊎_elim
    (λ (low : n < 2 ^ (bits - 1)). let e = signed_of-low bits n low in record { low = omega (arith, ints); high = omega (arith, ints) })
    (λ (high : 2 ^ (bits - 1) ≤ n). let e = signed_of-high bits n high in record { low = omega (arith, ints); high = omega (arith, ints) })
    (cases_lt n (2 ^ (bits - 1)))

-- the lowest bits of a number that isn't negative, and of one that is
low_of-pos : (bits a : ℕ) → a < 2 ^ bits → low_of bits (pos a) ≡ a
low_of-pos bits a below = mod-eq_of_lt below

low_of-negsuc : (bits a : ℕ) → a < 2 ^ bits → low_of bits (negsuc a) ≡ 2 ^ bits - 1 - a
low_of-negsuc bits a below = rw (low_of-pos bits a below) refl

-- the bits of the signed number of some bits are those
pub low_of-signed_of : (bits n : ℕ) → 0 < bits → n < 2 ^ bits → low_of bits (signed_of bits n) ≡ n
low_of-signed_of bits n some below =
    ⊎_elim
    (λ (low : n < 2 ^ (bits - 1)). ap (low_of bits) (signed_of-low bits n low) ∙ low_of-pos bits n below)
    (λ (high : 2 ^ (bits - 1) ≤ n).
    let e = signed_of-high bits n high in
    let negative : signed_of bits n ≡ negsuc (2 ^ bits - 1 - n) = omega (arith, ints) in
    let value : 2 ^ bits - 1 - (2 ^ bits - 1 - n) ≡ n = omega arith in
    ap (low_of bits) negative ∙ low_of-negsuc bits (2 ^ bits - 1 - n) (omega arith) ∙ value)
    (cases_lt n (2 ^ (bits - 1)))

-- a signed number of some bits is that of its bits
pub signed_of-low_of : (bits : ℕ) (x : ℤ) → 0 < bits → InSigned bits x → signed_of bits (low_of bits x) ≡ x
signed_of-low_of bits (pos a) some fits =
    let half = half_of bits some in
    let low : a < 2 ^ (bits - 1) = omega (arith, ints) in
    ap (signed_of bits) (low_of-pos bits a (omega arith)) ∙ signed_of-low bits a low
signed_of-low_of bits (negsuc a) some fits =
    let half = half_of bits some in
    let low : a < 2 ^ (bits - 1) = omega (arith, ints) in
    let e = signed_of-high bits (2 ^ bits - 1 - a) (omega arith) in
    let value : pos (2 ^ bits - 1 - a) -ℤ pos (2 ^ bits) ≡ negsuc a = omega (arith, ints) in
    ap (signed_of bits) (low_of-negsuc bits a (omega arith)) ∙ e ∙ value

-- so two signed numbers of some bits that have the same bits are equal
pub same_low_of : (bits : ℕ) (x y : ℤ) → 0 < bits → InSigned bits x → InSigned bits y → low_of bits x ≡ low_of bits y → x ≡ y
same_low_of bits x y some fits_x fits_y same =
    sym (signed_of-low_of bits x some fits_x) ∙ ap (signed_of bits) same ∙ signed_of-low_of bits y some fits_y

-- #ha and #lo, put together again
pub ha-lo : (x : ℤ) → InSigned 32 (x +ℤ pos 0x8000) → signed_of 16 (ha x) *ℤ pos 0x10000 +ℤ signed_of 16 (lo x) ≡ x
ha-lo x fits =
    let high_below : ha x < 2 ^ 16 = let below = low_of-lt 32 (x +ℤ pos 0x8000) in omega arith in
    halves_joined x (signed_of 16 (ha x)) (signed_of 16 (lo x)) fits
    (signed_of-InSigned 16 (ha x) (omega arith) high_below) (signed_of-InSigned 16 (lo x) (omega arith) (low_of-lt 16 x))
    (low_of-signed_of 16 (ha x) (omega arith) high_below) (low_of-signed_of 16 (lo x) (omega arith) (low_of-lt 16 x))

-- a signed half that holds #hi and a natural one that is #lo make the number
pub high_joined : (x high : ℤ) → InSigned 32 x → InSigned 16 high → low_of 16 high ≡ hi x → high *ℤ pos 0x10000 +ℤ pos (lo x) ≡ x
high_joined x high fits in_high same_high =
    let a = low_of-rest 32 x in
    let b = low_of-rest 16 x in
    let c = low_of-rest 16 high in
    let a' = low_of-lt 32 x in
    let b' = low_of-lt 16 x in
    omega (arith, ints)

-- #hi and #lo, put together again
pub hi-lo : (x : ℤ) → InSigned 32 x → signed_of 16 (hi x) *ℤ pos 0x10000 +ℤ pos (lo x) ≡ x
hi-lo x fits =
    let high_below : hi x < 2 ^ 16 = let below = low_of-lt 32 x in omega arith in
    high_joined x (signed_of 16 (hi x)) fits
    (signed_of-InSigned 16 (hi x) (omega arith) high_below) (low_of-signed_of 16 (hi x) (omega arith) high_below)

-- a number is small exactly if its whole #ha is 0
pub small-whole_ha : (x : ℤ) → IsSmall x ↔ (whole_ha x ≡ pos 0)
small-whole_ha x =
    let rest = low_of-rest 16 (x +ℤ pos 0x8000) in
    let below = low_of-lt 16 (x +ℤ pos 0x8000) in
    (λ small. omega (arith, ints), λ zero. record { low = omega (arith, ints); high = omega (arith, ints) })

-- a small number is its signed #lo
pub small-lo : (x : ℤ) → IsSmall x → signed_of 16 (lo x) ≡ x
small-lo x small = signed_of-low_of 16 x (omega arith) small

-- two displacements with the same parts are equal
pub same_parts : (x y : ℤ) → InSigned 34 x → InSigned 34 y → d0 x ≡ d0 y → d1 x ≡ d1 y → x ≡ y
same_parts x y fits_x fits_y high low = same_low_of 34 x y (omega arith) fits_x fits_y (omega arith)

-- d0 and d1, put together again
pub d0-d1 : (x : ℤ) → InSigned 34 x → signed_of 34 (d0 x * 2 ^ 16 + d1 x) ≡ x
d0-d1 x fits =
    let whole : d0 x * 2 ^ 16 + d1 x ≡ low_of 34 x = omega arith in
    ap (signed_of 34) whole ∙ signed_of-low_of 34 x (omega arith) fits
