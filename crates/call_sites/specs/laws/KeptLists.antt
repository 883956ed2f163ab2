-- What tests keep of lists, and lists in order of numbers.
use Rattle.std.proofs.Common.{◌≡◌, ◌<◌, ◌≤◌, inl, inr, ℕ, zero, suc, ◌+◌, Bool, true, false, ◌&&◌, cond, eqb, ltb, List, [], ◌∷◌, ◌++◌, length, sym, ap, ◌∙◌, refl, arith}
use Rattle.std.specs.List.{filter, range_with_len, slice_index_or}
use Rattle.std.specs.List.Sorted.{IsNonDecreasingBy}
use Rattle.std.proofs.lemmas.Bool.{cases_lt}
use Rattle.std.proofs.lemmas.Bool.Decides.{nat_tests}
use Rattle.symbol_table.specs.laws.FilteredLists.{filter_none}

module _ {X : Type 0} where
  -- tests that agree on a list keep the same of it
  pub filter_same : (p q : X → Bool) (xs : List X) →
      ((k : ℕ) (d : X) → k < length xs → p (slice_index_or xs k d) ≡ q (slice_index_or xs k d)) → filter p xs ≡ filter q xs
  filter_same p q [] same = refl
  filter_same p q (x ∷ xs) same =
      let first : p x ≡ q x = same 0 x (omega arith) in
      let rest : filter p xs ≡ filter q xs = filter_same p q xs (λ k d within. same (suc k) d (omega arith)) in
      ap (λ (t : Bool). cond t (x ∷ filter p xs) (filter p xs)) first ∙ ap (λ (l : List X). cond (q x) (x ∷ l) l) rest

  -- a test that all pass keeps all
  pub filter_all : (p : X → Bool) (xs : List X) → ((k : ℕ) (d : X) → k < length xs → p (slice_index_or xs k d) ≡ true) → filter p xs ≡ xs
  filter_all p [] passes = refl
  filter_all p (x ∷ xs) passes =
      ap (λ (t : Bool). cond t (x ∷ filter p xs) (filter p xs)) (passes 0 x (omega arith))
      ∙ ap (λ (l : List X). x ∷ l) (filter_all p xs (λ k d within. passes (suc k) d (omega arith)))

  twice_case : (p q : X → Bool) (x : X) (xs : List X) (t : Bool) → p x ≡ t → filter q (filter p xs) ≡ filter (λ y. p y && q y) xs →
      filter q (cond t (x ∷ filter p xs) (filter p xs)) ≡ cond (t && q x) (x ∷ filter (λ y. p y && q y) xs) (filter (λ y. p y && q y) xs)
  twice_case p q x xs true test rest = ap (λ (l : List X). cond (q x) (x ∷ l) l) rest
  twice_case p q x xs false test rest = rest

  -- two tests, one after the other
  pub filter_twice : (p q : X → Bool) (xs : List X) → filter q (filter p xs) ≡ filter (λ y. p y && q y) xs
  filter_twice p q [] = refl
  filter_twice p q (x ∷ xs) = twice_case p q x xs (p x) refl (filter_twice p q xs)

module _ {X : Type 0} (n : X → ℕ) where
  abbrev pub below : ℕ → X → Bool
  below r x = ltb (n x) r

  abbrev pub at : ℕ → X → Bool
  at r x = eqb (n x) r

  joined : (x : X) (all less here : List X) (a b c : Bool) → all ≡ less ++ here → a ≡ true → b ≡ true → c ≡ false →
      cond a (x ∷ all) all ≡ cond b (x ∷ less) less ++ cond c (x ∷ here) here
  joined x all less here a b c is ea eb ec =
      ap (λ (t : Bool). cond t (x ∷ all) all) ea ∙ ap (λ (l : List X). x ∷ l) is
      ∙ sym (ap (λ (t : Bool). cond t (x ∷ less) less ++ cond c (x ∷ here) here) eb
      ∙ ap (λ (t : Bool). (x ∷ less) ++ cond t (x ∷ here) here) ec)

  joined_here : (x : X) (all less here : List X) (a b c : Bool) → all ≡ less ++ here → less ≡ [] → a ≡ true → b ≡ false → c ≡ true →
      cond a (x ∷ all) all ≡ cond b (x ∷ less) less ++ cond c (x ∷ here) here
  joined_here x all less here a b c is none ea eb ec =
      ap (λ (t : Bool). cond t (x ∷ all) all) ea ∙ ap (λ (l : List X). x ∷ l) (is ∙ ap (λ (l : List X). l ++ here) none)
      ∙ sym (ap (λ (t : Bool). cond t (x ∷ less) less ++ cond c (x ∷ here) here) eb
      ∙ ap (λ (t : Bool). less ++ cond t (x ∷ here) here) ec ∙ ap (λ (l : List X). l ++ (x ∷ here)) none)

  joined_past : (x : X) (all less here : List X) (a b c : Bool) → all ≡ less ++ here → a ≡ false → b ≡ false → c ≡ false →
      cond a (x ∷ all) all ≡ cond b (x ∷ less) less ++ cond c (x ∷ here) here
  joined_past x all less here a b c is ea eb ec =
      ap (λ (t : Bool). cond t (x ∷ all) all) ea ∙ is
      ∙ sym (ap (λ (t : Bool). cond t (x ∷ less) less ++ cond c (x ∷ here) here) eb ∙ ap (λ (t : Bool). less ++ cond t (x ∷ here) here) ec)

  -- of a list in order, what is below a number is what is below the one before, and then what has that
  pub one_more : (xs : List X) (r : ℕ) → IsNonDecreasingBy n xs → filter (below (suc r)) xs ≡ filter (below r) xs ++ filter (at r) xs
  one_more [] r sorted = refl
  one_more (x ∷ xs) r sorted =
      let rest = one_more xs r (λ i j d le within. sorted (suc i) (suc j) d (omega arith) (omega arith)) in
      let all = filter (below (suc r)) xs in
      let less = filter (below r) xs in
      let here = filter (at r) xs in
      elim (cases_lt (n x) r) [
        | inl low ↦ joined x all less here (below (suc r) x) (below r x) (at r x) rest (grind (arith, nat_tests)) (grind (arith, nat_tests))
            (grind (arith, nat_tests))
        | inr high ↦ elim (cases_lt r (n x)) [
          | inl past ↦ joined_past x all less here (below (suc r) x) (below r x) (at r x) rest (grind (arith, nat_tests))
              (grind (arith, nat_tests)) (grind (arith, nat_tests))
          | inr same ↦ (
              let none : less ≡ [] = filter_none (below r) xs
              (λ k d within. (let least : n x ≤ n (slice_index_or xs k d) = sorted 0 (suc k) d (omega arith) (omega arith) in
              grind (arith, nat_tests))) in
              joined_here x all less here (below (suc r) x) (below r x) (at r x) rest none (grind (arith, nat_tests))
              (grind (arith, nat_tests)) (grind (arith, nat_tests)))
        ]
      ]

-- one number more
pub range_more : (a n last : ℕ) → a + n ≡ last → range_with_len a (suc n) ≡ range_with_len a n ++ last ∷ []
range_more a zero last is =
    let here : a ≡ last = omega arith in
    ap (λ (m : ℕ). m ∷ []) here
range_more a (suc n) last is = ap (λ (l : List ℕ). a ∷ l) (range_more (a + 1) n last (omega arith))
