-- A walk over numbers that looks for the first fault.
use Rattle.std.proofs.Common.{◌≡◌, ℕ, zero, suc, ◌+◌, ◌-◌, ◌<◌, ◌≤◌, inl, inr, List, ◌∷◌, Option, Some, None, sym, ap, ◌∙◌, refl, arith}
use Rattle.std.proofs.lemmas.Bool.{cases_lt}
use Rattle.elf64_records.specs.First.{◌orelse◌, first_from, first_in}

-- where there is no first of two, both pass
pub both_none : {R : Type 0} (o p : Option R) → o orelse p ≡ None → (o ≡ None) × (p ≡ None)
both_none None p none = (refl, none)
both_none (Some r) p none = cc

module _ {R : Type 0} (f : ℕ → Option R) where
  -- what is left from a number on is that number and the rest
  pub walk_step : (i n : ℕ) → i < n → first_from f i (n - i) ≡ f i orelse first_from f (i + 1) (n - (i + 1))
  walk_step i n within =
      let left : n - i ≡ suc (n - (i + 1)) = omega arith in
      ap (first_from f i) left

  -- nothing is left at the end
  pub walk_end : (i n : ℕ) → n ≤ i → first_from f i (n - i) ≡ None
  walk_end i n over =
      let left : n - i ≡ 0 = omega arith in
      ap (first_from f i) left

  -- a number passes: what is left is the rest
  pub walk_passes : (i n : ℕ) (all : Option R) → i < n → first_from f i (n - i) ≡ all → f i ≡ None →
      first_from f (i + 1) (n - (i + 1)) ≡ all
  walk_passes i n all within so_far passes =
      sym (ap (λ o. o orelse first_from f (i + 1) (n - (i + 1))) passes) ∙ sym (walk_step i n within) ∙ so_far

  -- a number doesn't: its fault is the first
  pub walk_stops : (i n : ℕ) (all : Option R) (r : R) → i < n → first_from f i (n - i) ≡ all → f i ≡ Some r → all ≡ Some r
  walk_stops i n all r within so_far stops =
      sym so_far ∙ walk_step i n within ∙ ap (λ o. o orelse first_from f (i + 1) (n - (i + 1))) stops

  -- where there is no first, each passes
  pub walk_none : (start count k : ℕ) → first_from f start count ≡ None → start ≤ k → k < start + count → f k ≡ None
  walk_none start zero k none from below = absurd (omega arith)
  walk_none start (suc count) k none from below =
      let both = both_none (f start) (first_from f (start + 1) count) none in
      elim (cases_lt start k) [
        | inl less ↦ walk_none (start + 1) count k both.1 (omega arith) (omega arith)
        | inr most ↦ (let same : start ≡ k = omega arith in ap f (sym same) ∙ both.0)
      ]

-- the same over a list, from its front
module _ {X R : Type 0} (f : X → Option R) where
  list_case : (xs rest : List X) (x : X) → xs ≡ x ∷ rest → first_in f xs ≡ f x orelse first_in f rest
  list_case xs rest x is = ap (first_in f) is

  -- an element passes: what is left is the rest
  pub list_passes : (xs rest : List X) (x : X) (all : Option R) → first_in f xs ≡ all → xs ≡ x ∷ rest → f x ≡ None → first_in f rest ≡ all
  list_passes xs rest x all so_far is passes =
      sym (ap (λ o. o orelse first_in f rest) passes) ∙ sym (list_case xs rest x is) ∙ so_far

  -- an element doesn't: its fault is the first
  pub list_stops : (xs rest : List X) (x : X) (all : Option R) (r : R) → first_in f xs ≡ all → xs ≡ x ∷ rest → f x ≡ Some r → all ≡ Some r
  list_stops xs rest x all r so_far is stops =
      sym so_far ∙ list_case xs rest x is ∙ ap (λ o. o orelse first_in f rest) stops
