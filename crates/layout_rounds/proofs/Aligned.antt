-- Rounding up.
use Rattle.std.proofs.Common.{ℕ, ◌≡◌, ◌<◌, ◌≤◌, ◌+◌, ◌-◌, ◌*◌, ◌/◌, ◌%◌, ap, sym, ◌∙◌, arith}
use Rattle.std.proofs.lemmas.Nat.{div-mul-add, div-add-mod', pow_pos}
use Rattle.std.proofs.Math.Nat.{div-mul-le_self, mod-lt}
use Rattle.ppc_bytes.specs.Bytes.{IsAlignedUp, IsPowerOfTwo}
use Rattle.layout_rounds.specs.Shapes.{aligned}

-- a power of two is above zero
pub power_pos : (a : ℕ) → IsPowerOfTwo a → 0 < a
power_pos a power = let p = pow_pos power.0 in omega (arith, p, power.1)

-- the least multiple is the quotient's
pub aligned_is : (n a r : ℕ) → 0 < a → IsAlignedUp n a r → r ≡ aligned n a
aligned_is n a r some up =
    let whole : r / a * a + r % a ≡ r = div-add-mod' r a in
    let exact : r / a * a ≡ r = omega (arith, whole, up.multiple) in
    let rest : n + (a - 1) - r < a = omega (arith, up.least, up.above, some) in
    let parts : r / a * a + (n + (a - 1) - r) ≡ n + (a - 1) = omega (arith, exact, up.least, some) in
    let quotient : (n + (a - 1)) / a ≡ r / a = ap (λ x. x / a) (sym parts) ∙
    div-mul-add (r / a) a (n + (a - 1) - r) rest in
    sym (ap (λ q. q * a) quotient ∙ exact)

pub aligned_most : (n a : ℕ) → aligned n a ≤ n + (a - 1)
aligned_most n a = div-mul-le_self (n + (a - 1)) a

pub aligned_least : (n u : ℕ) → 0 < u → n ≤ aligned n u
aligned_least n u some =
    let whole : (n + (u - 1)) / u * u + (n + (u - 1)) % u ≡ n + (u - 1) = div-add-mod' (n + (u - 1)) u in
    let rest : (n + (u - 1)) % u < u = mod-lt (n + (u - 1)) some in
    omega (arith, whole, rest, some)
