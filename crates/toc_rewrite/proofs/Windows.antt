-- Lists in order, and what stands between two bounds.
use Rattle.std.proofs.Common.{◌≡◌, ◌<◌, ◌≤◌, ℕ, Bool, true, false, not, ◌&&◌, eqb, leb, ltb, List, length, sym, refl, arith, inl, inr}
use Rattle.std.specs.List.{list_any, slice_index_or}
use Rattle.std.proofs.lemmas.Bool.{cases_lt}
use Rattle.std.proofs.lemmas.Bool.Decides.{nat_tests}
use Rattle.std.proofs.lemmas.List.Folds.{list_any_at, list_any_none}

module _ {X : Type 0} (n : X → ℕ) (xs : List X) where
  -- the elements below a number, and then the others
  pub record IsCount (t c : ℕ) : Type 0 where
    pub within : c ≤ length xs
    pub before : (k : ℕ) (d : X) → k < c → n (slice_index_or xs k d) < t
    pub after : (k : ℕ) (d : X) → c ≤ k → k < length xs → t ≤ n (slice_index_or xs k d)

  outside : (s t m : ℕ) → m < s → (leb s m && ltb m t) ≡ false
  outside s t m below = grind (arith, nat_tests)

  past : (s t m : ℕ) → t ≤ m → (leb s m && ltb m t) ≡ false
  past s t m above = grind (arith, nat_tests)

  inside : (s t m : ℕ) → s ≤ m → m < t → (leb s m && ltb m t) ≡ true
  inside s t m above below = grind (arith, nat_tests)

  -- where as many are below two bounds, none stands between them
  none_between : (s t c e : ℕ) → IsCount s c → IsCount t e → c ≡ e → list_any (λ x. leb s (n x) && ltb (n x) t) xs ≡ false
  none_between s t c e low high same =
      list_any_none (λ x. leb s (n x) && ltb (n x) t) xs
      (λ k d within.
      elim (cases_lt k c) [
        | inl less ↦ outside s t (n (slice_index_or xs k d)) (low.before k d less)
        | inr most ↦ past s t (n (slice_index_or xs k d)) (high.after k d (omega arith) within)
      ])

  -- and else one does
  some_between : (s t c e : ℕ) (d : X) → IsCount s c → IsCount t e → c < e →
      list_any (λ x. leb s (n x) && ltb (n x) t) xs ≡ true
  some_between s t c e d low high less =
      let within = high.within in
      list_any_at (λ x. leb s (n x) && ltb (n x) t) xs c d (omega arith)
      (inside s t (n (slice_index_or xs c d)) (low.after c d (omega arith) (omega arith)) (high.before c d less))

  -- no more are below the lower bound
  counts_rise : (s t c e : ℕ) (d : X) → IsCount s c → IsCount t e → s ≤ t → c ≤ e
  counts_rise s t c e d low high bounds =
      elim (cases_lt e c) [
        | inl less ↦ (
            let within = low.within in
            let below = low.before e d less in
            let above = high.after e d (omega arith) (omega arith) in
            absurd (omega (arith, below, above)))
        | inr most ↦ most
      ]

  between_case : (s t c e : ℕ) (d : X) (same : Bool) → eqb c e ≡ same → IsCount s c → IsCount t e → s ≤ t →
      not same ≡ list_any (λ x. leb s (n x) && ltb (n x) t) xs
  between_case s t c e d true is low high bounds = sym (none_between s t c e low high (grind (arith, nat_tests, is)))
  between_case s t c e d false is low high bounds =
      let rise = counts_rise s t c e d low high bounds in
      sym (some_between s t c e d low high (grind (arith, nat_tests, is, rise)))

  pub between : (s t c e : ℕ) (d : X) → IsCount s c → IsCount t e → s ≤ t →
      not (eqb c e) ≡ list_any (λ x. leb s (n x) && ltb (n x) t) xs
  between s t c e d low high bounds = between_case s t c e d (eqb c e) refl low high bounds
