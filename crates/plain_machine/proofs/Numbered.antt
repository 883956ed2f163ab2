-- Bytes that are all numbers.
use Rattle.std.proofs.Common.{◌≡◌, ℕ, zero, suc, ◌+◌, ◌-◌, ◌/◌, ◌%◌, ◌<◌, ◌≤◌, Bool, true, false, ◌&&◌, List, Option, Some, None, is_some, ◌≢◌, refl, sym, ap, ◌∙◌, subst, arith}
use Rattle.std.specs.Prelude.{◌==◌}
use Rattle.std.proofs.lemmas.Bool.Decides.{nat_tests}
use Rattle.plain_machine.specs.declared.others.Others.{Others}
use Rattle.plain_machine.specs.declared.value.Cell.{Cell}
use Rattle.plain_machine.specs.inside.Others.{entry_in, get_at, other_at, is_number, are_numbers}

-- all are numbers where each is
pub all_numbers : (f : ℕ → Cell) (at n : ℕ) → ((a : ℕ) → at ≤ a → a < at + n → is_number (f a) ≡ true) → are_numbers f at n ≡ true
all_numbers f at zero h = refl
all_numbers f at (suc n) h =
    ap (λ b. b && are_numbers f (at + 1) n) (h at (omega arith) (omega arith))
    ∙ all_numbers f (at + 1) n (λ a from below. h a (omega arith) (omega arith))

-- and each is where all are
first_or_later : (f : ℕ → Cell) (at a : ℕ) (b c : Bool) → is_number (f at) ≡ b → (b && c) ≡ true → at ≤ a →
    (at + 1 ≤ a → c ≡ true → is_number (f a) ≡ true) → is_number (f a) ≡ true
first_or_later f at a true true p e from later = by_place (a - at) refl where
  by_place : (k : ℕ) → a - at ≡ k → is_number (f a) ≡ true
  by_place zero z = subst (λ x. is_number (f x) ≡ true) (let same : at ≡ a = omega (arith, z, from) in same) p
  by_place (suc k) z = later (omega (arith, z)) refl
first_or_later f at a true false p e from later = cc
first_or_later f at a false c p e from later = cc

pub each_number : (f : ℕ → Cell) (at n a : ℕ) → are_numbers f at n ≡ true → at ≤ a → a < at + n → is_number (f a) ≡ true
each_number f at zero a h from below = absurd (omega arith)
each_number f at (suc n) a h from below =
    first_or_later f at a (is_number (f at)) (are_numbers f (at + 1) n) refl h from
    (λ later rest. each_number f (at + 1) n a rest later (omega arith))

-- one turn further
pub next_number :
    (f : ℕ → Cell) (at n k : ℕ) →
    k < n →
    is_number (f (at + k)) ≡ true →
    are_numbers f (at + (k + 1)) (n - (k + 1)) ≡ are_numbers f (at + k) (n - k)
next_number f at n k h is =
    let left : n - k ≡ suc (n - (k + 1)) = omega arith in
    let there : at + (k + 1) ≡ at + k + 1 = omega arith in
    ap (λ a. are_numbers f a (n - (k + 1))) there
    ∙ sym (ap (λ b. b && are_numbers f (at + k + 1) (n - (k + 1))) is)
    ∙ ap (are_numbers f (at + k)) (sym left)

none_there : (o : Option (List Cell)) (k : ℕ) → is_some o ≡ false → is_number (entry_in o k) ≡ true
none_there None k h = refl
none_there (Some cells) k h = cc

-- bytes in doublewords that were never told
pub untouched_numbers :
    (o : Others) (at n : ℕ) →
    n ≤ 8 →
    0 < n →
    is_some (get_at o (at / 8)) ≡ false →
    is_some (get_at o ((at + n - 1) / 8)) ≡ false →
    are_numbers (other_at o) at n ≡ true
untouched_numbers o at n few some first last = all_numbers (other_at o) at n
    (λ a from below. by_doubleword a from below (a / 8 == at / 8) refl) where
      by_doubleword : (a : ℕ) → at ≤ a → a < at + n → (b : Bool) → (a / 8 == at / 8) ≡ b → is_number (other_at o a) ≡ true
      by_doubleword a from below true e =
          let p : a / 8 ≡ at / 8 = grind (arith, nat_tests, e) in
          none_there (get_at o (a / 8)) (a % 8) (ap (λ q. is_some (get_at o q)) p ∙ first)
      by_doubleword a from below false e =
          let ne : a / 8 ≢ at / 8 = grind (arith, nat_tests, e) in
          let p : a / 8 ≡ (at + n - 1) / 8 = omega (arith, few, some, from, below, ne) in
          none_there (get_at o (a / 8)) (a % 8) (ap (λ q. is_some (get_at o q)) p ∙ last)
