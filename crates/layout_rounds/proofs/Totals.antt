-- Sums of which one summand grows.
use Rattle.std.proofs.Common.{ℕ, zero, suc, ◌≢◌, ◌≤◌, ◌+◌, inl, inr, subst, sym, arith}
use Rattle.layout_rounds.proofs.Cases.{same_or_other}

-- the sum of the first n values
abbrev pub total : (ℕ → ℕ) → ℕ → ℕ
total f zero = 0
total f (suc n) = total f n + f n

module _ (f g : ℕ → ℕ) (at more : ℕ) (other : (i : ℕ) → i ≢ at → g i ≤ f i) where
  total_before : (n : ℕ) → n ≤ at → total g n ≤ total f n
  total_before zero le = omega arith
  total_before (suc n) le =
      let rest = total_before n (omega (arith, le)) in
      let here = other n (omega (arith, le)) in
      omega (arith, rest, here)

  -- where one value grows, the sum grows by no more
  pub total_grows : g at ≤ f at + more → (n : ℕ) → total g n ≤ total f n + more
  total_grows here zero = omega arith
  total_grows here (suc n) = elim (same_or_other n at) [
    | inl same ↦
        let rest = total_before n (omega (arith, same)) in
        let now : g n ≤ f n + more = subst (λ (i : ℕ). g i ≤ f i + more) (sym same) here in
        omega (arith, rest, now)
    | inr apart ↦
        let rest = total_grows here n in
        let now = other n apart in
        omega (arith, rest, now)
  ]
