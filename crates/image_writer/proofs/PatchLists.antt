-- What holds of each element of a list put together of lists, and of each two.
use Rattle.std.proofs.Common.{ℕ, zero, suc, ◌+◌, ◌≡◌, ◌<◌, ◌≤◌, inl, inr, List, [], ◌∷◌, ◌++◌, map, All, AllPairs, subst, arith}
use Rattle.std.specs.List.{flat_map, range_with_len, slice_index_or}
use Rattle.std.proofs.lemmas.Bool.{cases_lt}
use Rattle.std.proofs.lemmas.List.Elements.{All-nil, All-cons, All-head, All-tail, All-append, All-map}
use Rattle.std.proofs.lemmas.List.Kept.{AllPairs-cons}

module _ {X : Type 0} (P : X → Type 0) where
  -- of two lists
  pub all_left : (xs ys : List X) → All P (xs ++ ys) → All P xs
  all_left [] ys all = All-nil P
  all_left (x ∷ xs) ys all = All-cons P x xs (All-head P x (xs ++ ys) all) (all_left xs ys (All-tail P x (xs ++ ys) all))

  pub all_right : (xs ys : List X) → All P (xs ++ ys) → All P ys
  all_right [] ys all = all
  all_right (x ∷ xs) ys all = all_right xs ys (All-tail P x (xs ++ ys) all)

  -- of a list for each element of one
  module _ {Y : Type 0} (f : Y → List X) where
    pub all_flat : (ys : List Y) → All (λ y. All P (f y)) ys → All P (flat_map f ys)
    all_flat [] all = All-nil P
    all_flat (y ∷ ys) all =
        All-append P (f y) (flat_map f ys) (All-head (λ z. All P (f z)) y ys all) (all_flat ys (All-tail (λ z. All P (f z)) y ys all))

    pub flat_all : (ys : List Y) → All P (flat_map f ys) → All (λ y. All P (f y)) ys
    flat_all [] all = All-nil (λ y. All P (f y))
    flat_all (y ∷ ys) all =
        All-cons (λ z. All P (f z)) y ys (all_left (f y) (flat_map f ys) all) (flat_all ys (all_right (f y) (flat_map f ys) all))

  pub map_all : {Y : Type 0} (f : Y → X) (ys : List Y) → All P (map f ys) → All (λ y. P (f y)) ys
  map_all f [] all = All-nil (λ y. P (f y))
  map_all f (y ∷ ys) all =
      All-cons (λ z. P (f z)) y ys (All-head P (f y) (map f ys) all) (map_all f ys (All-tail P (f y) (map f ys) all))

module _ (P : ℕ → Type 0) where
  -- of numbers from one on
  pub all_range : (a n : ℕ) → ((i : ℕ) → a ≤ i → i < a + n → P i) → All P (range_with_len a n)
  all_range a zero each = All-nil P
  all_range a (suc n) each =
      All-cons P a (range_with_len (a + 1) n) (each a (omega arith) (omega arith))
      (all_range (a + 1) n (λ i from below. each i (omega (arith, from)) (omega (arith, below))))

  pub range_all : (a n i : ℕ) → All P (range_with_len a n) → a ≤ i → i < a + n → P i
  range_all a zero i all from below = absurd (omega (arith, from, below))
  range_all a (suc n) i all from below =
      elim (cases_lt a i) [
        | inl less ↦ range_all (a + 1) n i (All-tail P a (range_with_len (a + 1) n) all) (omega (arith, less)) (omega (arith, below))
        | inr most ↦ (
            let same : a ≡ i = omega (arith, from, most) in
            subst P same (All-head P a (range_with_len (a + 1) n) all))
      ]

module _ {X : Type 0} (R : X → X → Type 0) where
  first_with : (x : X) (xs : List X) → AllPairs R (x ∷ xs) → All (R x) xs
  first_with x xs apart = λ k d within. apart 0 (suc k) d (omega arith) (omega (arith, within))

  others : (x : X) (xs : List X) → AllPairs R (x ∷ xs) → AllPairs R xs
  others x xs apart = λ i j d before within. apart (suc i) (suc j) d (omega (arith, before)) (omega (arith, within))

  pub pairs_none : AllPairs R []
  pairs_none = λ i j d before within. absurd (omega (arith, within))

  pub pairs_one : (x : X) → AllPairs R (x ∷ [])
  pairs_one x = AllPairs-cons R x [] (All-nil (R x)) pairs_none

  -- of two lists, where each of the one is so with each of the other
  pub pairs_append : (xs ys : List X) → AllPairs R xs → AllPairs R ys → All (λ x. All (R x) ys) xs → AllPairs R (xs ++ ys)
  pairs_append [] ys first second cross = second
  pairs_append (x ∷ xs) ys first second cross =
      AllPairs-cons R x (xs ++ ys)
      (All-append (R x) xs ys (first_with x xs first) (All-head (λ z. All (R z) ys) x xs cross))
      (pairs_append xs ys (others x xs first) second (All-tail (λ z. All (R z) ys) x xs cross))

  -- of lists, where each of one is so with each of a later one
  module _ {Y : Type 0} (f : Y → List X) where
    abbrev Crosses : Y → Y → Type 0
    Crosses y z = All (λ a. All (R a) (f z)) (f y)

    crosses_all : (y : Y) (ys : List Y) → All (Crosses y) ys → All (λ a. All (R a) (flat_map f ys)) (f y)
    crosses_all y ys each = λ k d within.
        all_flat (R (slice_index_or (f y) k d)) f ys (λ j e inside. each j e inside k d within)

    head_crosses : (y : Y) (ys : List Y) → AllPairs Crosses (y ∷ ys) → All (Crosses y) ys
    head_crosses y ys apart = λ k d within. apart 0 (suc k) d (omega arith) (omega (arith, within))

    tail_crosses : (y : Y) (ys : List Y) → AllPairs Crosses (y ∷ ys) → AllPairs Crosses ys
    tail_crosses y ys apart = λ i j d before within. apart (suc i) (suc j) d (omega (arith, before)) (omega (arith, within))

    pub pairs_flat : (ys : List Y) → All (λ y. AllPairs R (f y)) ys → AllPairs Crosses ys → AllPairs R (flat_map f ys)
    pairs_flat [] own apart = pairs_none
    pairs_flat (y ∷ ys) own apart =
        pairs_append (f y) (flat_map f ys) (All-head (λ z. AllPairs R (f z)) y ys own)
        (pairs_flat ys (All-tail (λ z. AllPairs R (f z)) y ys own) (tail_crosses y ys apart))
        (crosses_all y ys (head_crosses y ys apart))

  pub pairs_map : {Y : Type 0} (f : Y → X) (ys : List Y) → AllPairs (λ y z. R (f y) (f z)) ys → AllPairs R (map f ys)
  pairs_map f [] apart = pairs_none
  pairs_map f (y ∷ ys) apart =
      AllPairs-cons R (f y) (map f ys)
      (All-map (R (f y)) f ys (λ k d within. apart 0 (suc k) d (omega arith) (omega (arith, within))))
      (pairs_map f ys (λ i j d before within. apart (suc i) (suc j) d (omega (arith, before)) (omega (arith, within))))

-- of numbers from one on
pub pairs_range : (R : ℕ → ℕ → Type 0) (a n : ℕ) → ((i j : ℕ) → a ≤ i → i < j → j < a + n → R i j) → AllPairs R (range_with_len a n)
pairs_range R a zero each = λ i j d before within. absurd (omega (arith, within))
pairs_range R a (suc n) each =
    AllPairs-cons R a (range_with_len (a + 1) n)
    (all_range (R a) (a + 1) n (λ j from below. each a j (omega arith) (omega (arith, from)) (omega (arith, below))))
    (pairs_range R (a + 1) n (λ i j from before below. each i j (omega (arith, from)) before (omega (arith, below))))
