-- A list whose first elements are passed one by one.
use Rattle.std.proofs.Common.{◌≡◌, ℕ, zero, suc, ◌+◌, List, [], ◌∷◌, drop, Option, Some, None, refl, sym, ap, ◌∙◌, add-one}
use Rattle.std.specs.Iterator.{YieldsFirstBy}
use Rattle.std.specs.List.{slice_index_or}

module _ {X : Type 0} where
  abbrev tail_of : List X → List X
  tail_of [] = []
  tail_of (x ∷ xs) = xs

  drop_tail : (xs : List X) (k : ℕ) → drop (suc k) xs ≡ tail_of (drop k xs)
  drop_tail [] zero = refl
  drop_tail [] (suc k) = refl
  drop_tail (x ∷ xs) zero = refl
  drop_tail (x ∷ xs) (suc k) = drop_tail xs k

  -- one element is passed, or none is left
  pub passed_one : (xs left rest : List X) (x : X) (k : ℕ) → left ≡ drop k xs → left ≡ x ∷ rest → rest ≡ drop (k + 1) xs
  passed_one xs left rest x k so_far is =
      sym (ap (λ n. drop n xs) (add-one k) ∙ drop_tail xs k ∙ ap tail_of (sym so_far ∙ is))

  pub passed_none : (xs left rest : List X) (k : ℕ) → left ≡ drop k xs → left ≡ [] → rest ≡ [] → rest ≡ drop (k + 1) xs
  passed_none xs left rest k so_far none over =
      over ∙ sym (ap (λ n. drop n xs) (add-one k) ∙ drop_tail xs k ∙ ap tail_of (sym so_far ∙ none))

  -- whichever it was
  pub passed : {A : Type 0} (view : A → X) (xs left rest : List X) (o : Option A) (k : ℕ) → left ≡ drop k xs →
      YieldsFirstBy view (λ (l : List X). l) left o rest → rest ≡ drop (k + 1) xs
  passed view xs left rest None k so_far is = passed_none xs left rest k so_far is.0 is.1
  passed view xs left rest (Some a) k so_far is = passed_one xs left rest (view a) k so_far is

  -- the first that is left stands at the number of those that are passed
  pub first_left : (xs rest : List X) (x d : X) (k : ℕ) → drop k xs ≡ x ∷ rest → x ≡ slice_index_or xs k d
  first_left [] rest x d zero is = cc
  first_left [] rest x d (suc k) is = cc
  first_left (y ∷ xs) rest x d zero is = cc
  first_left (y ∷ xs) rest x d (suc k) is = first_left xs rest x d k is

  pub none_there : (xs : List X) (d : X) (k : ℕ) → drop k xs ≡ [] → d ≡ slice_index_or xs k d
  none_there [] d zero is = refl
  none_there [] d (suc k) is = refl
  none_there (y ∷ xs) d zero is = cc
  none_there (y ∷ xs) d (suc k) is = none_there xs d k is
