-- The first of two, and the first over one number more.
use Rattle.std.proofs.Common.{◌≡◌, ℕ, zero, suc, ◌+◌, Bool, true, false, List, ◌++◌, Option, Some, None, refl, sym, ap, ◌∙◌, arith}
use Rattle.std.specs.Prelude.{◌||◌}
use Rattle.std.specs.List.{list_any}
use Rattle.std.proofs.lemmas.List.Folds.{list_any-append}
use Rattle.elf64_records.specs.First.{◌orelse◌, when, first_from}

module _ {R : Type 0} where
  pub orelse_assoc : (o p q : Option R) → (o orelse p) orelse q ≡ o orelse (p orelse q)
  orelse_assoc None p q = refl
  orelse_assoc (Some r) p q = refl

  pub orelse_none : (o : Option R) → o orelse None ≡ o
  orelse_none None = refl
  orelse_none (Some r) = refl

  pub when_both : (a b : Bool) (r : R) → when a r orelse when b r ≡ when (a || b) r
  when_both true b r = refl
  when_both false b r = refl

  -- one number more
  pub first_more : (f : ℕ → Option R) (n count : ℕ) → first_from f n (suc count) ≡ first_from f n count orelse f (n + count)
  first_more f n zero = let same : n ≡ n + 0 = omega arith in orelse_none (f n) ∙ ap f same
  first_more f n (suc count) =
      let same : n + 1 + count ≡ n + suc count = omega arith in
      ap (λ o. f n orelse o) (first_more f (n + 1) count ∙ ap (λ m. first_from f (n + 1) count orelse f m) same)
      ∙ sym (orelse_assoc (f n) (first_from f (n + 1) count) (f (n + suc count)))

-- what is noted of one more
pub noted_more : {R X : Type 0} (before old new : Option R) (test : X → Bool) (xs ys : List X) (r : R) →
    old ≡ before orelse when (list_any test xs) r → new ≡ old orelse when (list_any test ys) r →
    new ≡ before orelse when (list_any test (xs ++ ys)) r
noted_more before old new test xs ys r so_far step =
    step ∙ ap (λ o. o orelse when (list_any test ys) r) so_far
    ∙ orelse_assoc before (when (list_any test xs) r) (when (list_any test ys) r)
    ∙ ap (λ o. before orelse o) (when_both (list_any test xs) (list_any test ys) r
    ∙ ap (λ b. when b r) (sym (list_any-append test xs ys)))
