-- One number's bits put into another's.
use Rattle.std.proofs.Common.{ℕ, ◌≡◌, ◌<◌, ◌-◌, min, max, arith, bit_and, bit_or, w64, ◌^◌, eqb, cond}
use Rattle.std.proofs.lemmas.Nat.Bits.{bit_at_or, bit_at_and, bit_at_not, bit_at-lt}
use Rattle.std.specs.Int.{bit_at, bit_not}
use Rattle.reloc_fields.specs.Bits.{Fills}

-- one bit of a word that is put together: m of the mask, o of the old one, f of the new
picked : (m o f n k p r : ℕ) →
    m < 2 →
    o < 2 →
    f < 2 →
    n ≡ 1 - m →
    k ≡ min o n →
    p ≡ min f m →
    r ≡ max k p →
    r ≡ cond (eqb m 1) f o
picked m o f n k p r hm ho hf hn hk hp hr = grind arith

pub fills : (mask old field : ℕ) →
    mask < 2 ^ 64 →
    Fills mask old field (bit_or (bit_and old (bit_not w64 mask)) (bit_and field mask))
fills mask old field fits i below =
    picked (bit_at mask i) (bit_at old i) (bit_at field i) _ _ _ _ (bit_at-lt mask i) (bit_at-lt old i)
    (bit_at-lt field i)
    (bit_at_not w64 mask i fits below) (bit_at_and old (bit_not w64 mask) i) (bit_at_and field mask i)
    (bit_at_or (bit_and old (bit_not w64 mask)) (bit_and field mask) i)
