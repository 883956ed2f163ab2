-- Lists of bytes are known to be the same where each byte is.
use Rattle.std.proofs.Common.{◌≡◌, ◌≢◌, ℕ, zero, suc, ◌<◌, ◌≤◌, Bool, true, false, ◌&&◌, List, [], ◌∷◌, length, drop, slice_index_or, refl, ap, ◌∙◌, arith}
use Rattle.plain_machine.specs.declared.value.Cell.{Cell}
use Rattle.plain_machine.specs.Values.{same_cell, same_cells}

pub different_lengths : (xs ys : List Cell) → length xs ≢ length ys → same_cells xs ys ≡ false
different_lengths [] [] h = absurd (h refl)
different_lengths [] (y ∷ ys) h = refl
different_lengths (x ∷ xs) [] h = refl
different_lengths (x ∷ xs) (y ∷ ys) h =
    ap (λ b. same_cell x y && b) (different_lengths xs ys (λ e. h (ap suc e))) ∙ and_false (same_cell x y) where
      and_false : (b : Bool) → (b && false) ≡ false
      and_false true = refl
      and_false false = refl

-- the first of what is left, and the rest
pub cells_left :
    (xs ys : List Cell) (i : ℕ) (x y : Cell) →
    i < length xs →
    length xs ≡ length ys →
    same_cells (drop i xs) (drop i ys)
    ≡ (same_cell (slice_index_or xs i x) (slice_index_or ys i y) && same_cells (drop (suc i) xs) (drop (suc i) ys))
cells_left [] ys i x y h e = absurd (omega arith)
cells_left (c ∷ xs) [] i x y h e = cc
cells_left (c ∷ xs) (d ∷ ys) zero x y h e = refl
cells_left (c ∷ xs) (d ∷ ys) (suc i) x y h e = cells_left xs ys i x y (omega arith) (omega (arith, e))

pub none_left : (xs ys : List Cell) (i : ℕ) → length xs ≤ i → length xs ≡ length ys → same_cells (drop i xs) (drop i ys) ≡ true
none_left [] [] i h e = both_dropped i where
  both_dropped : (i : ℕ) → same_cells (drop i []) (drop i []) ≡ true
  both_dropped zero = refl
  both_dropped (suc i) = refl
none_left [] (d ∷ ys) i h e = cc
none_left (c ∷ xs) [] i h e = cc
none_left (c ∷ xs) (d ∷ ys) zero h e = absurd (omega arith)
none_left (c ∷ xs) (d ∷ ys) (suc i) h e = none_left xs ys i (omega arith) (omega (arith, e))

pub and_left : (b c : Bool) → b ≡ true → (b && c) ≡ c
and_left b c h = ap (λ a. a && c) h

pub and_not : (b c : Bool) → b ≡ false → (b && c) ≡ false
and_not b c h = ap (λ a. a && c) h
