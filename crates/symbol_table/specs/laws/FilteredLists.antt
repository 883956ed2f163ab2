-- Lists of which a part passes a test.
use Rattle.std.proofs.Common.{◌≡◌, ◌<◌, ◌≤◌, ℕ, zero, suc, ◌+◌, Bool, true, false, ◌&&◌, ◌||◌, cond, List, [], ◌∷◌, length, length-append, take, drop, sym, ap, ◌∙◌, refl, arith}
use Rattle.std.specs.List.{filter, list_any, slice_index_or}
use Rattle.std.specs.List.Sorted.{IsPermutation}
use Rattle.std.proofs.lemmas.List.Sorted.{sum_by-IsPermutation}
use Rattle.std.proofs.lemmas.List.{take-append-drop}
use Rattle.std.proofs.lemmas.List.Elements.{filter-append}
use Rattle.std.proofs.lemmas.List.Sums.{length-filter}

module _ {X : Type 0} (p : X → Bool) where
  kept : (x : X) (xs ys : List X) → filter p xs ≡ filter p ys → filter p (x ∷ xs) ≡ filter p (x ∷ ys)
  kept x xs ys same = ap (λ (l : List X). cond (p x) (x ∷ l) l) same

  left_out : (x : X) (xs : List X) → p x ≡ false → filter p (x ∷ xs) ≡ filter p xs
  left_out x xs fails = ap (λ (b : Bool). cond b (x ∷ filter p xs) (filter p xs)) fails

  -- nothing is kept of what fails
  pub filter_none : (xs : List X) → ((k : ℕ) (d : X) → k < length xs → p (slice_index_or xs k d) ≡ false) → filter p xs ≡ []
  filter_none [] fails = refl
  filter_none (x ∷ xs) fails =
      left_out x xs (fails 0 x (omega arith)) ∙ filter_none xs (λ k d within. fails (suc k) d (omega arith))

  -- a front that fails may be dropped
  pub filter_dropped : (xs : List X) (n : ℕ) → ((k : ℕ) (d : X) → k < n → k < length xs → p (slice_index_or xs k d) ≡ false) →
      filter p (drop n xs) ≡ filter p xs
  filter_dropped xs zero fails = refl
  filter_dropped [] (suc n) fails = refl
  filter_dropped (x ∷ xs) (suc n) fails =
      filter_dropped xs n (λ k d before within. fails (suc k) d (omega arith) (omega arith))
      ∙ sym (left_out x xs (fails 0 x (omega arith) (omega arith)))

  -- and so may an end
  pub filter_taken : (xs : List X) (n : ℕ) → ((k : ℕ) (d : X) → n ≤ k → k < length xs → p (slice_index_or xs k d) ≡ false) →
      filter p (take n xs) ≡ filter p xs
  filter_taken xs zero fails = sym (filter_none xs (λ k d within. fails k d (omega arith) within))
  filter_taken [] (suc n) fails = refl
  filter_taken (x ∷ xs) (suc n) fails =
      kept x (take n xs) xs (filter_taken xs n (λ k d past within. fails (suc k) d (omega arith) (omega arith)))

  -- a test of what is kept
  any_case : (q : X → Bool) (x : X) (xs : List X) (b : Bool) → p x ≡ b → list_any q (filter p xs) ≡ list_any (λ y. p y && q y) xs →
      list_any q (cond b (x ∷ filter p xs) (filter p xs)) ≡ ((b && q x) || list_any (λ y. p y && q y) xs)
  any_case q x xs true test rest = ap (λ (b : Bool). q x || b) rest
  any_case q x xs false test rest = rest

  pub list_any-filter : (q : X → Bool) (xs : List X) → list_any q (filter p xs) ≡ list_any (λ y. p y && q y) xs
  list_any-filter q [] = refl
  list_any-filter q (x ∷ xs) = any_case q x xs (p x) refl (list_any-filter q xs)

  -- as many elements of a list and of its permutation are kept
  pub length-filter-IsPermutation : (xs ys : List X) → IsPermutation xs ys → length (filter p ys) ≡ length (filter p xs)
  length-filter-IsPermutation xs ys same =
      length-filter p ys ∙ sum_by-IsPermutation (λ x. cond (p x) 1 0) xs ys same ∙ sym (length-filter p xs)

  -- no more of a front is kept than of all
  pub length-filter-take : (xs : List X) (n : ℕ) → length (filter p (take n xs)) ≤ length (filter p xs)
  length-filter-take xs n =
      let all : length (filter p xs) ≡ length (filter p (take n xs)) + length (filter p (drop n xs)) =
      ap (λ (l : List X). length (filter p l)) (sym (take-append-drop n xs))
      ∙ ap length (filter-append p (take n xs) (drop n xs))
      ∙ length-append (filter p (take n xs)) (filter p (drop n xs)) in
      omega (arith, all)
