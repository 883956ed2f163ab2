-- Two halves make a number again, one half makes a small one, and the halves tell the number.
use Rattle.std.proofs.Common.{ℕ, ◌≡◌, ◌↔◌, Bool, true, false, not, ◌&&◌, ap, ◌∙◌, sym, refl, arith}
use Rattle.std.specs.Prelude.{ℤ, pos, neg_ℤ, ◌+ℤ◌, ◌*ℤ◌, int_lt}
use Rattle.std.proofs.lemmas.Int.{ints}
use Rattle.ppc_bytes.specs.Bytes.{InSigned}
use Rattle.ppc_bytes.specs.Halves.{signed_of, lo, ha, whole_ha, IsSmall}
use Rattle.ppc_bytes.specs.laws.Halves.{low_of-rest, low_of-lt, ha-lo, ha-low_of, signed_of-low_of, signed_of-InSigned, low_of-signed_of, small-lo, small-whole_ha}
use Rattle.toc_rewrite.specs.Words.{is_small}

-- the sum in r2 and a high half, and in that and a low half: the base and the number
pub halves_reach : (base : ℕ) (x : ℤ) → InSigned 32 (x +ℤ pos 0x8000) →
    (pos base +ℤ signed_of 16 (ha x) *ℤ pos 0x10000) +ℤ signed_of 16 (lo x) ≡ pos base +ℤ x
halves_reach base x fits = let both = ha-lo x fits in omega (arith, ints, both)

-- where the number is small, the low half alone
pub small_reaches : (base : ℕ) (x : ℤ) → IsSmall x → pos base +ℤ signed_of 16 (lo x) ≡ pos base +ℤ x
small_reaches base x small = ap (λ (y : ℤ). pos base +ℤ y) (small-lo x small)

-- the whole high half and the low one make each number, how far it may be
pub whole_ha-lo : (x : ℤ) → whole_ha x *ℤ pos 0x10000 +ℤ signed_of 16 (lo x) ≡ x
whole_ha-lo x =
    let y : ℤ = x +ℤ pos 0x8000 in
    let top = low_of-rest 16 y in
    let top_below = low_of-lt 16 y in
    let own = low_of-rest 16 x in
    let own_below = low_of-lt 16 x in
    let fits = signed_of-InSigned 16 (lo x) (omega arith) own_below in
    let low = fits.low in
    let high = fits.high in
    let bits = low_of-signed_of 16 (lo x) (omega arith) own_below in
    let part = low_of-rest 16 (signed_of 16 (lo x)) in
    omega (arith, ints)

-- a number in reach has its whole high half in its word
pub ha-whole : (x : ℤ) → InSigned 32 (x +ℤ pos 0x8000) → signed_of 16 (ha x) ≡ whole_ha x
ha-whole x fits =
    let rest = low_of-rest 16 (x +ℤ pos 0x8000) in
    let below = low_of-lt 16 (x +ℤ pos 0x8000) in
    let low = fits.low in
    let high = fits.high in
    ap (signed_of 16) (ha-low_of x)
    ∙ signed_of-low_of 16 (whole_ha x) (omega arith) (record { low = omega (arith, ints); high = omega (arith, ints) })

-- one high half and one low half are one number's
pub same_halves : (x y : ℤ) → whole_ha x ≡ whole_ha y → lo x ≡ lo y → x ≡ y
same_halves x y high low =
    sym (whole_ha-lo x) ∙ ap (λ (h : ℤ). h *ℤ pos 0x10000 +ℤ signed_of 16 (lo x)) high
    ∙ ap (λ (l : ℕ). whole_ha y *ℤ pos 0x10000 +ℤ signed_of 16 l) low ∙ whole_ha-lo y

-- whether a number is small is told by its whole high half
small_case : (x : ℤ) (below above : Bool) → int_lt x (neg_ℤ (pos 0x8000)) ≡ below → int_lt x (pos 0x8000) ≡ above →
    (not below && above) ≡ true → IsSmall x
small_case x true above b a is = cc
small_case x false true b a is = record { low = omega (arith, ints, b); high = omega (arith, ints, a) }
small_case x false false b a is = cc

within_case : (x : ℤ) (below above : Bool) → int_lt x (neg_ℤ (pos 0x8000)) ≡ below → int_lt x (pos 0x8000) ≡ above →
    IsSmall x → (not below && above) ≡ true
within_case x false true b a small = refl
within_case x true above b a small =
    let low = small.low in
    let high = small.high in
    absurd (omega (arith, ints, b))
within_case x false false b a small =
    let low = small.low in
    let high = small.high in
    absurd (omega (arith, ints, a))

pub is_small-IsSmall : (x : ℤ) → (is_small x ≡ true) ↔ IsSmall x
is_small-IsSmall x = (
  λ is. small_case x (int_lt x (neg_ℤ (pos 0x8000))) (int_lt x (pos 0x8000)) refl refl is,
  λ small. within_case x (int_lt x (neg_ℤ (pos 0x8000))) (int_lt x (pos 0x8000)) refl refl small,
)

pub is_small-whole_ha : (x : ℤ) → (is_small x ≡ true) ↔ (whole_ha x ≡ pos 0)
is_small-whole_ha x =
    (λ is. (small-whole_ha x).0 ((is_small-IsSmall x).0 is), λ zero. (is_small-IsSmall x).1 ((small-whole_ha x).1 zero))
