-- Marks of words in text sections, read and written.
use Rattle.std.proofs.Common.{◌≡◌, ◌<◌, ◌⊎◌, inl, inr, ℕ, zero, suc, List, [], ◌∷◌, length, Option, None, Some, slice_get, slice_set, sym, ap, ◌∙◌, subst, refl, arith}
use Rattle.std.proofs.Math.Seq.{map-set_same}
use Rattle.std.proofs.lemmas.Bool.{cases_lt}
use Rattle.std.proofs.lemmas.List.{length-set}
use Rattle.std.proofs.lemmas.Option.{slice_get_within, get_or_from_slice_get}
use Rattle.plain_run.specs.declared.marks.Mark.{Mark}
use Rattle.plain_run.specs.inside.Marks.{MarkedSection, shape_of, with_mark, mark_of, mark_in, IsMarkedAs}

module _ {X : Type 0} where
  -- what stands in a list of which one element is another
  pub get_set_same : (xs : List X) (k : ℕ) (y : X) → k < length xs → slice_get (slice_set xs k y) k ≡ Some y
  get_set_same [] k y within = absurd (omega (arith, within))
  get_set_same (x ∷ xs) zero y within = refl
  get_set_same (x ∷ xs) (suc k) y within = get_set_same xs k y (omega (arith, within))

  pub get_set_other : (xs : List X) (k j : ℕ) (y : X) → (j ≡ k → ⊥) → slice_get (slice_set xs k y) j ≡ slice_get xs j
  get_set_other [] k j y other = refl
  get_set_other (x ∷ xs) zero zero y other = absurd (other refl)
  get_set_other (x ∷ xs) zero (suc j) y other = refl
  get_set_other (x ∷ xs) (suc k) zero y other = refl
  get_set_other (x ∷ xs) (suc k) (suc j) y other = get_set_other xs k j y (λ same. other (ap (λ (n : ℕ). suc n) same))

-- two numbers are one, or not
pub one_number : (m n : ℕ) → (m ≡ n) ⊎ (m ≡ n → ⊥)
one_number m n =
    elim (cases_lt m n) [
      | inl less ↦ inr (λ same. omega (arith, less, same))
      | inr most ↦ elim (cases_lt n m) [
        | inl more ↦ inr (λ same. omega (arith, more, same))
        | inr least ↦ inl (omega (arith, most, least))
      ]
    ]

-- where a word has a mark
pub record IsThere (sections : List MarkedSection) (k w : ℕ) (x : Mark) : Type 0 where
  pub section : MarkedSection
  pub found : slice_get sections k ≡ Some section
  pub number_in : k < length sections
  pub here : slice_get section.marks w ≡ Some x
  pub within : w < length section.marks

there_case : (sections : List MarkedSection) (k w : ℕ) (x : Mark) (o : Option MarkedSection) → slice_get sections k ≡ o →
    mark_of o w ≡ Some x → IsThere sections k w x
there_case sections k w x None found has = cc
there_case sections k w x (Some m) found has = record {
  section = m;
  found = found;
  number_in = slice_get_within sections k m found;
  here = has;
  within = slice_get_within m.marks w x has;
}

pub mark_there : (sections : List MarkedSection) (k w : ℕ) (x : Mark) → mark_in sections k w ≡ Some x → IsThere sections k w x
mark_there sections k w x has = there_case sections k w x (slice_get sections k) refl has

pub mark_of_found : (sections : List MarkedSection) (k w : ℕ) (m : MarkedSection) → slice_get sections k ≡ Some m →
    mark_in sections k w ≡ slice_get m.marks w
mark_of_found sections k w m found = ap (λ (o : Option MarkedSection). mark_of o w) found

-- a word with another mark
module _ (sections : List MarkedSection) (k w : ℕ) (m : MarkedSection) (x : Mark) (found : slice_get sections k ≡ Some m)
    (within : w < length m.marks) where
  abbrev written : List MarkedSection
  written = slice_set sections k (with_mark m w x)

  number_in : k < length sections
  number_in = slice_get_within sections k m found

  same_shape : shape_of (with_mark m w x) ≡ shape_of m
  same_shape =
      ap (λ (n : ℕ). record { id = m.id; align = m.align; bytes = m.bytes; words = n }) (length-set m.marks w x)

  others_case : (j v : ℕ) → (j ≡ k → v ≡ w → ⊥) → (j ≡ k) ⊎ (j ≡ k → ⊥) → mark_in written j v ≡ mark_in sections j v
  others_case j v other (inl same) =
      let here : mark_in written k v ≡ slice_get (slice_set m.marks w x) v =
      ap (λ (o : Option MarkedSection). mark_of o v) (get_set_same sections k (with_mark m w x) number_in) in
      let kept = get_set_other m.marks w v x (other same) in
      subst (λ (n : ℕ). mark_in written n v ≡ mark_in sections n v) (sym same)
      (here ∙ kept ∙ sym (mark_of_found sections k v m found))
  others_case j v other (inr differs) =
      ap (λ (o : Option MarkedSection). mark_of o v) (get_set_other sections k j (with_mark m w x) differs)

  pub marked_as : IsMarkedAs sections written k w x
  marked_as = record {
    shapes =
        map-set_same shape_of sections k (with_mark m w x) m
        (same_shape ∙ ap shape_of (sym (get_or_from_slice_get sections k m m found)));
    here = ap (λ (o : Option MarkedSection). mark_of o w) (get_set_same sections k (with_mark m w x) number_in)
        ∙ get_set_same m.marks w x within;
    others = λ j v other. others_case j v other (one_number j k);
  }

-- what is so of each mark after one more is written
module _ (P Q : ℕ → ℕ → Mark → Type 0) (old new : List MarkedSection) (k w : ℕ) (y : Mark) (is : IsMarkedAs old new k w y) where
  written_case : (j v : ℕ) (x : Mark) → (here : Q k w y) →
      (others : (j v : ℕ) (x : Mark) → (j ≡ k → v ≡ w → ⊥) → mark_in old j v ≡ Some x → Q j v x) →
      mark_in new j v ≡ Some x → (j ≡ k) ⊎ (j ≡ k → ⊥) → (v ≡ w) ⊎ (v ≡ w → ⊥) → Q j v x
  written_case j v x here others has (inl section) (inl word) =
      let there : mark_in new k w ≡ Some x =
      subst (λ (n : ℕ). mark_in new k n ≡ Some x) word (subst (λ (n : ℕ). mark_in new n v ≡ Some x) section has) in
      let both : Some y ≡ Some x = sym is.here ∙ there in
      let same : y ≡ x = cc in
      subst (λ (n : ℕ). Q n v x) (sym section) (subst (λ (n : ℕ). Q k n x) (sym word) (subst (Q k w) same here))
  written_case j v x here others has (inl section) (inr differs) =
      others j v x (λ _ word. differs word) (sym (is.others j v (λ _ word. differs word)) ∙ has)
  written_case j v x here others has (inr differs) word =
      others j v x (λ section _. differs section) (sym (is.others j v (λ section _. differs section)) ∙ has)

  pub all_written : Q k w y → ((j v : ℕ) (x : Mark) → (j ≡ k → v ≡ w → ⊥) → P j v x → Q j v x) →
      ((j v : ℕ) (x : Mark) → mark_in old j v ≡ Some x → P j v x) → (j v : ℕ) (x : Mark) → mark_in new j v ≡ Some x → Q j v x
  all_written here others before j v x has =
      written_case j v x here (λ j v x other was. others j v x other (before j v x was)) has (one_number j k) (one_number v w)
