-- Whether one of the first numbers passes a test.
use Rattle.std.proofs.Common.{◌≡◌, ◌<◌, inl, inr, ℕ, zero, suc, ◌+◌, Bool, true, false, ◌||◌, [], ◌∷◌, ap, ◌∙◌, refl, arith, add-one}
use Rattle.std.specs.List.{list_any, range_with_len}
use Rattle.std.proofs.Math.Bool.{or-false}
use Rattle.std.proofs.lemmas.Bool.{cases_lt}
use Rattle.std.proofs.lemmas.List.Folds.{list_any-append}
use Rattle.call_sites.specs.laws.KeptLists.{range_more}

or_true : (p : Bool) → (p || true) ≡ true
or_true true = refl
or_true false = refl

module _ (p : ℕ → Bool) where
  -- one number more
  any_suc : (n : ℕ) → list_any p (range_with_len 0 (suc n)) ≡ (list_any p (range_with_len 0 n) || p n)
  any_suc n =
      ap (list_any p) (range_more 0 n n (omega arith)) ∙ list_any-append p (range_with_len 0 n) (n ∷ [])
      ∙ ap (λ (t : Bool). list_any p (range_with_len 0 n) || t) (or-false (p n))

  pub none_more : (n : ℕ) → list_any p (range_with_len 0 n) ≡ false → p n ≡ false → list_any p (range_with_len 0 (n + 1)) ≡ false
  none_more n before fails =
      ap (λ (m : ℕ). list_any p (range_with_len 0 m)) (add-one n) ∙ any_suc n
      ∙ ap (λ (t : Bool). t || p n) before ∙ fails

  pub one_passes : (n count : ℕ) → n < count → p n ≡ true → list_any p (range_with_len 0 count) ≡ true
  one_passes n zero within passes = absurd (omega arith)
  one_passes n (suc count) within passes =
      elim (cases_lt n count) [
        | inl less ↦ any_suc count ∙ ap (λ (t : Bool). t || p count) (one_passes n count less passes)
        | inr most ↦ (
            let same : count ≡ n = omega arith in
            any_suc count ∙ ap (λ (m : ℕ). list_any p (range_with_len 0 count) || p m) same
            ∙ ap (λ (t : Bool). list_any p (range_with_len 0 count) || t) passes ∙ or_true (list_any p (range_with_len 0 count)))
      ]
