-- Cells that lie in two doublewords are put by putting those of each.
use Rattle.std.proofs.Common.{◌≡◌, ◌≢◌, ℕ, zero, suc, ◌+◌, ◌-◌, ◌/◌, ◌<◌, ◌≤◌, Bool, true, false, ◌&&◌, cond, List, [], ◌∷◌, length, refl, ap, ◌∙◌, arith}
use Rattle.std.specs.Prelude.{◌==◌, nat_le, nat_lt, slice_index_or}
use Rattle.std.proofs.lemmas.Bool.Decides.{nat_tests}
use Rattle.power_machine.specs.Memory.{put}
use Rattle.plain_machine.specs.declared.value.Cell.{Cell}
use Rattle.plain_machine.specs.inside.Others.{put_where}

-- what stands at a place of a list that has it depends on no default
pub index_default : {X : Type 0} (xs : List X) (i : ℕ) (x y : X) → i < length xs → slice_index_or xs i x ≡ slice_index_or xs i y
index_default [] i x y h = absurd (omega arith)
index_default (z ∷ xs) zero x y h = refl
index_default (z ∷ xs) (suc i) x y h = index_default xs i x y (omega arith)

put_both :
    (first last at a : ℕ) (cells : List Cell) (c : Cell) (x y z : Bool) →
    (a / 8 == first) ≡ x →
    (a / 8 == last) ≡ y →
    (nat_le at a && nat_lt a (at + length cells)) ≡ z →
    length cells ≤ 8 →
    first ≡ at / 8 →
    last ≡ (at + length cells - 1) / 8 →
    cond y (cond z (slice_index_or cells (a - at) (cond x (cond z (slice_index_or cells (a - at) c) c) c))
    (cond x (cond z (slice_index_or cells (a - at) c) c) c))
    (cond x (cond z (slice_index_or cells (a - at) c) c) c)
    ≡ cond z (slice_index_or cells (a - at) c) c
put_both first last at a cells c true true false p q r few f l = refl
put_both first last at a cells c true false false p q r few f l = refl
put_both first last at a cells c false true false p q r few f l = refl
put_both first last at a cells c false false false p q r few f l = refl
put_both first last at a cells c x true true p q r few f l =
    let from : at ≤ a = grind (arith, nat_tests, r) in
    let below : a < at + length cells = grind (arith, nat_tests, r) in
    index_default cells (a - at) _ c (omega (arith, from, below))
put_both first last at a cells c true false true p q r few f l = refl
put_both first last at a cells c false false true p q r few f l =
    let from : at ≤ a = grind (arith, nat_tests, r) in
    let below : a < at + length cells = grind (arith, nat_tests, r) in
    let not_first : a / 8 ≢ first = grind (arith, nat_tests, p) in
    let not_last : a / 8 ≢ last = grind (arith, nat_tests, q) in
    absurd (between from below not_first not_last) where
      between : at ≤ a → a < at + length cells → a / 8 ≢ first → a / 8 ≢ last → ⊥
      between from below not_first not_last = omega (arith, from, below, not_first, not_last, few, f, l)

-- first the one doubleword, then the other
pub put_in_both :
    (old mid one two : ℕ → Cell) (first last at a : ℕ) (cells : List Cell) →
    mid a ≡ old a →
    one a ≡ put_where first mid at cells a →
    two a ≡ put_where last one at cells a →
    length cells ≤ 8 →
    first ≡ at / 8 →
    last ≡ (at + length cells - 1) / 8 →
    two a ≡ put old at cells a
put_in_both old mid one two first last at a cells same h k few f l =
    k
    ∙ ap (λ c. cond (a / 8 == last) (cond (nat_le at a && nat_lt a (at + length cells)) (slice_index_or cells (a - at) c) c) c) h
    ∙ put_both first last at a cells (mid a) (a / 8 == first) (a / 8 == last) (nat_le at a && nat_lt a (at + length cells)) refl refl refl
    few f l
    ∙ ap (λ c. cond (nat_le at a && nat_lt a (at + length cells)) (slice_index_or cells (a - at) c) c) same
