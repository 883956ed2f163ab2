-- The first of a list that passes a test, where all that do have one answer.
use Rattle.std.proofs.Common.{◌≡◌, Bool, true, false, ◌&&◌, ◌||◌, List, [], ◌∷◌, filter, Option, None, Some, ap, ◌∙◌, refl, if◌then◌else◌}
use Rattle.std.specs.List.{All, list_any}
use Rattle.std.proofs.lemmas.List.Elements.{All-head, All-tail}
use Rattle.elf64_records.specs.First.{◌orelse◌, when, first_in}

module _ {X R : Type 0} (test : X → Bool) (f : X → R) where
  -- the first one's answer
  abbrev pub answer_in : List X → Option R
  answer_in xs = first_in (λ x. when (test x) (f x)) xs

  none_case : (b : Bool) (r : R) (rest : Option R) (others : Bool) → (b || others) ≡ false → (others ≡ false → rest ≡ None) →
      when b r orelse rest ≡ None
  none_case true r rest others none later = cc
  none_case false r rest others none later = later none

  pub none_first : (xs : List X) → list_any test xs ≡ false → answer_in xs ≡ None
  none_first [] none = refl
  none_first (x ∷ xs) none = none_case (test x) (f x) (answer_in xs) (list_any test xs) none (none_first xs)

  some_case : (b : Bool) (r y : R) (rest : Option R) (others : Bool) → (b || others) ≡ true → (b ≡ true → r ≡ y) →
      (others ≡ true → rest ≡ Some y) → when b r orelse rest ≡ Some y
  some_case true r y rest others some here later = ap Some (here refl)
  some_case false r y rest others some here later = later some

  pub some_first : (P : X → Type 0) (y : R) → ((x : X) → P x → test x ≡ true → f x ≡ y) → (xs : List X) → All P xs →
      list_any test xs ≡ true → answer_in xs ≡ Some y
  some_first P y one [] all some = cc
  some_first P y one (x ∷ xs) all some =
      some_case (test x) (f x) y (answer_in xs) (list_any test xs) some (one x (All-head P x xs all))
      (some_first P y one xs (All-tail P x xs all))

  -- one of those that are picked out passes
  picked_case : (pick : X → Bool) (b t : Bool) (x : X) (xs : List X) → test x ≡ t →
      ((b && t) || list_any (λ z. pick z && test z) xs) ≡ true →
      (list_any (λ z. pick z && test z) xs ≡ true → list_any test (filter pick xs) ≡ true) →
      list_any test (if b then x ∷ filter pick xs else filter pick xs) ≡ true
  picked_case pick true true x xs is some later = ap (λ (t : Bool). t || list_any test (filter pick xs)) is
  picked_case pick true false x xs is some later =
      ap (λ (t : Bool). t || list_any test (filter pick xs)) is ∙ later some
  picked_case pick false t x xs is some later = later some

  pub any_picked : (pick : X → Bool) (xs : List X) → list_any (λ z. pick z && test z) xs ≡ true → list_any test (filter pick xs) ≡ true
  any_picked pick [] some = cc
  any_picked pick (x ∷ xs) some = picked_case pick (pick x) (test x) x xs refl some (any_picked pick xs)

-- what is found is the answer of one of the list that passes
pub record IsFound {X R : Type 0} (test : X → Bool) (f : X → R) (P : X → Type 0) (y : R) : Type 0 where
  pub one : X
  pub is : P one
  pub passes : test one ≡ true
  pub answer_is : f one ≡ y

module _ {X R : Type 0} (test : X → Bool) (f : X → R) (P : X → Type 0) where
  found_case : (b : Bool) (x : X) (y : R) (rest : Option R) → test x ≡ b → P x → when b (f x) orelse rest ≡ Some y →
      (rest ≡ Some y → IsFound test f P y) → IsFound test f P y
  found_case true x y rest is here found later = record { one = x; is = here; passes = is; answer_is = cc }
  found_case false x y rest is here found later = later found

  pub found_is : (xs : List X) (y : R) → All P xs → answer_in test f xs ≡ Some y → IsFound test f P y
  found_is [] y all found = cc
  found_is (x ∷ xs) y all found =
      found_case (test x) x y (answer_in test f xs) refl (All-head P x xs all) found (found_is xs y (All-tail P x xs all))
