-- The first place of a list that passes a test.
use Rattle.std.proofs.Common.{ℕ, suc, ◌≡◌, ◌<◌, ◌≤◌, ◌+◌, inl, inr, Bool, true, false, cond, not, ◌||◌, nat_lt, List, [], ◌∷◌, ◌++◌, length, get_or}
use Rattle.std.proofs.Common.{Option, Some, None, position, ap, sym, ◌∙◌, refl, arith, one-add}
use Rattle.std.specs.Option.{option_map}
use Rattle.std.specs.List.{list_any, position_or_len}
use Rattle.std.proofs.lemmas.Bool.{cases_lt}
use Rattle.std.proofs.lemmas.Bool.Decides.{nat_tests}

-- the place in a list with an element more in front
abbrev stepped : Bool → Option ℕ → Option ℕ
stepped true o = Some 0
stepped false o = option_map suc o

module _ {X : Type 0} (p : X → Bool) where
  at_place : (xs : List X) → position_or_len p xs < length xs → position p xs ≡ Some (position_or_len p xs)
  at_place xs lt =
      let test : nat_lt (position_or_len p xs) (length xs) ≡ true = grind (arith, nat_tests, lt) in
      ap (λ (b : Bool). cond b (Some (position_or_len p xs)) None) test

  pub at_none : (xs : List X) → length xs ≤ position_or_len p xs → position p xs ≡ None
  at_none xs le =
      let test : nat_lt (position_or_len p xs) (length xs) ≡ false = grind (arith, nat_tests, le) in
      ap (λ (b : Bool). cond b (Some (position_or_len p xs)) None) test

  len_step : (b : Bool) (x : X) (xs : List X) → p x ≡ b → position_or_len p (x ∷ xs) ≡ cond (not b) (1 + position_or_len p xs) 0
  len_step b x xs is = ap (λ (c : Bool). cond (not c) (1 + position_or_len p xs) 0) is

  found_case : (b : Bool) (x : X) (xs : List X) (d : X) → p x ≡ b → position_or_len p (x ∷ xs) < length (x ∷ xs) →
      (position_or_len p xs < length xs → p (get_or xs (position_or_len p xs) d) ≡ true) →
      p (get_or (x ∷ xs) (position_or_len p (x ∷ xs)) d) ≡ true
  found_case true x xs d is within rest =
      let now : position_or_len p (x ∷ xs) ≡ 0 = len_step true x xs is in
      ap (λ (n : ℕ). p (get_or (x ∷ xs) n d)) now ∙ is
  found_case false x xs d is within rest =
      let now : position_or_len p (x ∷ xs) ≡ suc (position_or_len p xs) = len_step false x xs is ∙ one-add (position_or_len p xs) in
      ap (λ (n : ℕ). p (get_or (x ∷ xs) n d)) now ∙ rest (omega (arith, now, within))

  -- what stands at a place that is found passes
  pub found_passes : (xs : List X) (d : X) → position_or_len p xs < length xs → p (get_or xs (position_or_len p xs) d) ≡ true
  found_passes [] d within = absurd (omega (arith, within))
  found_passes (x ∷ xs) d within = found_case (p x) x xs d refl within (λ inside. found_passes xs d inside)

  pub position_step : (b : Bool) (x : X) (xs : List X) → p x ≡ b → position p (x ∷ xs) ≡ stepped b (position p xs)
  position_step true x xs is =
      let now : position_or_len p (x ∷ xs) ≡ 0 = len_step true x xs is in
      at_place (x ∷ xs) (omega (arith, now)) ∙ ap Some now
  position_step false x xs is =
      let now : position_or_len p (x ∷ xs) ≡ 1 + position_or_len p xs = len_step false x xs is in
      elim (cases_lt (position_or_len p xs) (length xs)) [
        | inl lt ↦ at_place (x ∷ xs) (omega (arith, now, lt)) ∙ ap Some (now ∙ one-add (position_or_len p xs))
            ∙ sym (ap (option_map suc) (at_place xs lt))
        | inr le ↦ at_none (x ∷ xs) (omega (arith, now, le)) ∙ sym (ap (option_map suc) (at_none xs le))
      ]

  any_step : (b : Bool) (x : X) (xs : List X) → p x ≡ b → list_any p (x ∷ xs) ≡ (b || list_any p xs)
  any_step b x xs is = ap (λ (c : Bool). c || list_any p xs) is

  kept_case : (b : Bool) (o o' : Option ℕ) (k : ℕ) → ((m : ℕ) → o ≡ Some m → o' ≡ Some m) → stepped b o ≡ Some k → stepped b o' ≡ Some k
  kept_case true o o' k later is = is
  kept_case false None o' k later is = cc
  kept_case false (Some m) o' k later is = ap (option_map suc) (later m refl) ∙ is

  -- a place that was found stays where more comes behind
  pub position_kept : (xs ys : List X) (k : ℕ) → position p xs ≡ Some k → position p (xs ++ ys) ≡ Some k
  position_kept [] ys k is = cc
  position_kept (x ∷ xs) ys k is =
      position_step (p x) x (xs ++ ys) refl
      ∙ kept_case (p x) (position p xs) (position p (xs ++ ys)) k (λ m found. position_kept xs ys m found)
      (sym (position_step (p x) x xs refl) ∙ is)

  none_case : (b : Bool) (o : Option ℕ) (a : Bool) → (o ≡ None → a ≡ false) → stepped b o ≡ None → (b || a) ≡ false
  none_case true o a rest is = cc
  none_case false None a rest is = rest refl
  none_case false (Some m) a rest is = cc

  -- none passes where no place is found
  pub any-from_none : (xs : List X) → position p xs ≡ None → list_any p xs ≡ false
  any-from_none [] is = refl
  any-from_none (x ∷ xs) is =
      any_step (p x) x xs refl
      ∙ none_case (p x) (position p xs) (list_any p xs) (any-from_none xs) (sym (position_step (p x) x xs refl) ∙ is)

  some_case : (b : Bool) (o : Option ℕ) (a : Bool) (k : ℕ) → ((m : ℕ) → o ≡ Some m → a ≡ true) → stepped b o ≡ Some k → (b || a) ≡ true
  some_case true o a k rest is = refl
  some_case false None a k rest is = cc
  some_case false (Some m) a k rest is = rest m refl

  -- and one passes where one is
  pub any-from_some : (xs : List X) (k : ℕ) → position p xs ≡ Some k → list_any p xs ≡ true
  any-from_some [] k is = cc
  any-from_some (x ∷ xs) k is =
      any_step (p x) x xs refl
      ∙ some_case (p x) (position p xs) (list_any p xs) k (λ m found. any-from_some xs m found)
      (sym (position_step (p x) x xs refl) ∙ is)

  or_parts : (b a : Bool) → (b || a) ≡ false → (b ≡ false) × (a ≡ false)
  or_parts true a is = cc
  or_parts false a is = (refl, is)

  pub first_false : (x : X) (xs : List X) → list_any p (x ∷ xs) ≡ false → (p x ≡ false) × (list_any p xs ≡ false)
  first_false x xs is = or_parts (p x) (list_any p xs) is

  -- what comes behind elements that don't pass
  pub position_last : (xs : List X) (y : X) → list_any p xs ≡ false → p y ≡ true → position p (xs ++ y ∷ []) ≡ Some (length xs)
  position_last [] y none is = position_step true y [] is
  position_last (x ∷ xs) y none is =
      let parts = first_false x xs none in
      position_step false x (xs ++ y ∷ []) parts.0 ∙ ap (option_map suc) (position_last xs y parts.1 is)

  pub position_other : (xs : List X) (y : X) → p y ≡ false → position p (xs ++ y ∷ []) ≡ position p xs
  position_other [] y is = position_step false y [] is
  position_other (x ∷ xs) y is =
      position_step (p x) x (xs ++ y ∷ []) refl ∙ ap (stepped (p x)) (position_other xs y is)
      ∙ sym (position_step (p x) x xs refl)

  pub any_last : (xs : List X) (y : X) → list_any p xs ≡ false → p y ≡ false → list_any p (xs ++ y ∷ []) ≡ false
  any_last [] y none is = any_step false y [] is
  any_last (x ∷ xs) y none is =
      let parts = first_false x xs none in
      any_step false x (xs ++ y ∷ []) parts.0 ∙ any_last xs y parts.1 is

-- tests that agree find the same
module _ {X : Type 0} (p q : X → Bool) (agree : (x : X) → p x ≡ q x) where
  pub same_position : (xs : List X) → position p xs ≡ position q xs
  same_position [] = refl
  same_position (x ∷ xs) =
      position_step p (q x) x xs (agree x) ∙ ap (stepped (q x)) (same_position xs) ∙ sym (position_step q (q x) x xs refl)

  pub same_any : (xs : List X) → list_any p xs ≡ list_any q xs
  same_any [] = refl
  same_any (x ∷ xs) = any_step p (q x) x xs (agree x) ∙ ap (λ (b : Bool). q x || b) (same_any xs)
