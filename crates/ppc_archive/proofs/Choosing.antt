-- Candidates chosen one after another: what names need is among them, and nothing else.
use Rattle.std.proofs.Common.{◌≡◌, ℕ, ◌<◌, ◌≤◌, ◌⊎◌, inl, inr, Bool, true, false, List, [], ◌∷◌, ◌++◌, length, Option, Some, None, refl, sym, ap, ◌∙◌, subst, arith, length-append}
use Rattle.std.proofs.Math.ListN.{get_or-append}
use Rattle.std.specs.Prelude.{◌||◌, nat_eq, if◌then◌else◌, slice_index}
use Rattle.std.specs.List.{list_any}
use Rattle.std.specs.Str.{bytes_eq}
use Rattle.std.proofs.lemmas.Bool.Decides.{nat_tests}
use Rattle.std.proofs.lemmas.List.Folds.{list_any-append}
use Rattle.ppc_archive.proofs.NameMaps.{same_names, names_same}
use Rattle.ppc_archive.specs.inside.Givers.{among, taken, taken_all}

-- the names of one list and those of another
pub taken_both : (given : List ℕ → Option ℕ) (order : List ℕ) (xs ys : List (List ℕ)) →
    taken_all given (taken_all given order xs) ys ≡ taken_all given order (xs ++ ys)
taken_both given order [] ys = refl
taken_both given order (x ∷ xs) ys = taken_both given (taken order (given x)) xs ys

eq_self : (c : ℕ) → nat_eq c c ≡ true
eq_self c = grind (arith, nat_tests)

eq_same : (a b : ℕ) → nat_eq a b ≡ true → a ≡ b
eq_same a b test = grind (arith, nat_tests)

among_more : (order : List ℕ) (c d : ℕ) → among (order ++ d ∷ []) c ≡ (among order c || (nat_eq c d || false))
among_more order c d = list_any-append (nat_eq c) order (d ∷ [])

or_left : (a b : Bool) → a ≡ true → (a || b) ≡ true
or_left true b is = refl
or_left false b is = cc

or_right : (a b : Bool) → b ≡ true → (a || b) ≡ true
or_right true b is = refl
or_right false b is = is

pub or_split : (a b : Bool) → (a || b) ≡ true → (a ≡ true) ⊎ (b ≡ true)
or_split true b is = inl refl
or_split false b is = inr is

-- one more
module _ (order : List ℕ) (d : ℕ) where
  keeps_by : (t : Bool) (c : ℕ) → among order c ≡ true → among (if t then order else order ++ d ∷ []) c ≡ true
  keeps_by true c is = is
  keeps_by false c is = among_more order c d ∙ or_left (among order c) (nat_eq c d || false) is

  has_by : (t : Bool) → among order d ≡ t → among (if t then order else order ++ d ∷ []) d ≡ true
  has_by true is = is
  has_by false is = among_more order d d ∙ or_right (among order d) (nat_eq d d || false) (or_left (nat_eq d d) false (eq_self d))

  from_by : (t : Bool) (c : ℕ) → among (if t then order else order ++ d ∷ []) c ≡ true → (among order c ≡ true) ⊎ (c ≡ d)
  from_by true c is = inl is
  from_by false c is =
      elim (or_split (among order c) (nat_eq c d || false) (sym (among_more order c d) ∙ is)) [
        | inl before ↦ inl before
        | inr here ↦ elim (or_split (nat_eq c d) false here) [ inl same ↦ inr (eq_same c d same) | inr none ↦ cc ]
      ]

  longer_by : (t : Bool) → length order ≤ length (if t then order else order ++ d ∷ [])
  longer_by true = omega arith
  longer_by false = let more = length-append order (d ∷ []) in omega (arith, more)

  place_by : (t : Bool) (k : ℕ) → k < length order → slice_index (if t then order else order ++ d ∷ []) k ≡ slice_index order k
  place_by true k within = refl
  place_by false k within = get_or-append order (d ∷ []) 0 k within

taken_keeps : (order : List ℕ) (o : Option ℕ) (c : ℕ) → among order c ≡ true → among (taken order o) c ≡ true
taken_keeps order None c is = is
taken_keeps order (Some d) c is = keeps_by order d (among order d) c is

taken_has : (order : List ℕ) (o : Option ℕ) (c : ℕ) → o ≡ Some c → among (taken order o) c ≡ true
taken_has order None c is = cc
taken_has order (Some d) c is = let same : d ≡ c = cc in subst (λ (e : ℕ). among (taken order (Some d)) e ≡ true) same
    (has_by order d (among order d) refl)

taken_from : (order : List ℕ) (o : Option ℕ) (c : ℕ) → among (taken order o) c ≡ true → (among order c ≡ true) ⊎ (o ≡ Some c)
taken_from order None c is = inl is
taken_from order (Some d) c is =
    elim (from_by order d (among order d) c is) [ inl before ↦ inl before | inr same ↦ inr (ap Some (sym same)) ]

taken_longer : (order : List ℕ) (o : Option ℕ) → length order ≤ length (taken order o)
taken_longer order None = omega arith
taken_longer order (Some d) = longer_by order d (among order d)

taken_place : (order : List ℕ) (o : Option ℕ) (k : ℕ) → k < length order → slice_index (taken order o) k ≡ slice_index order k
taken_place order None k within = refl
taken_place order (Some d) k within = place_by order d (among order d) k within

-- all that names need
module _ (given : List ℕ → Option ℕ) where
  pub all_keep : (order : List ℕ) (names : List (List ℕ)) (c : ℕ) → among order c ≡ true → among (taken_all given order names) c ≡ true
  all_keep order [] c is = is
  all_keep order (name ∷ names) c is = all_keep (taken order (given name)) names c (taken_keeps order (given name) c is)

  pub all_have : (order : List ℕ) (names : List (List ℕ)) (name : List ℕ) (c : ℕ) → list_any (bytes_eq name) names ≡ true →
      given name ≡ Some c →
      among (taken_all given order names) c ≡ true
  all_have order [] name c asked is = cc
  all_have order (x ∷ names) name c asked is =
      elim (or_split (bytes_eq name x) (list_any (bytes_eq name) names) asked) [
        | inl here ↦ (
            let this : given x ≡ Some c = sym (ap given (same_names name x here)) ∙ is in
            all_keep (taken order (given x)) names c (taken_has order (given x) c this))
        | inr later ↦ all_have (taken order (given x)) names name c later is
      ]

  -- a candidate that was chosen was so before, or some name needs it
  pub record NeedsIt (names : List (List ℕ)) (c : ℕ) : Type 0 where
    pub name : List ℕ
    pub asked : list_any (bytes_eq name) names ≡ true
    pub is : given name ≡ Some c

  pub all_from : (order : List ℕ) (names : List (List ℕ)) (c : ℕ) → among (taken_all given order names) c ≡ true →
      (among order c ≡ true) ⊎ NeedsIt names c
  all_from order [] c is = inl is
  all_from order (x ∷ names) c is =
      elim (all_from (taken order (given x)) names c is) [
        | inl before ↦ elim (taken_from order (given x) c before) [
          | inl earlier ↦ inl earlier
          | inr here ↦ inr (record { name = x; asked = or_left (bytes_eq x x) (list_any (bytes_eq x) names) (names_same x); is = here })
        ]
        | inr later ↦ inr (record {
          name = later.name;
          asked =
              or_right (bytes_eq later.name x) (list_any (bytes_eq later.name) names) later.asked;
          is = later.is;
        })
      ]

  pub all_longer : (order : List ℕ) (names : List (List ℕ)) → length order ≤ length (taken_all given order names)
  all_longer order [] = omega arith
  all_longer order (x ∷ names) =
      let one = taken_longer order (given x) in let rest = all_longer (taken order (given x)) names in omega (arith, one, rest)

  pub all_place : (order : List ℕ) (names : List (List ℕ)) (k : ℕ) → k < length order →
      slice_index (taken_all given order names) k ≡ slice_index order k
  all_place order [] k within = refl
  all_place order (x ∷ names) k within =
      let one = taken_longer order (given x) in
      all_place (taken order (given x)) names k (omega (arith, one, within)) ∙ taken_place order (given x) k within
