-- What is looked up among slots in order of their places, or of their addresses.
use Rattle.std.proofs.Common.{◌≡◌, ◌<◌, ◌≤◌, ◌⊎◌, ℕ, ◌+◌, ◌*◌, ◌^◌, Bool, true, false, ◌&&◌, eqb, List, length, sym, ap, ◌∙◌, subst, refl, arith, inl, inr}
use Rattle.std.specs.List.{list_any, slice_index_or}
use Rattle.std.specs.List.Sorted.{IsNonDecreasingBy}
use Rattle.std.proofs.lemmas.Bool.{cases_lt}
use Rattle.std.proofs.lemmas.Bool.Decides.{nat_tests}
use Rattle.std.proofs.lemmas.List.Folds.{list_any_at, list_any_none}
use Rattle.toc_rewrite.specs.declared.found.Slot.{Slot}
use Rattle.toc_rewrite.specs.Folded.{is_slot_at, is_slot_named}
use Rattle.toc_rewrite.specs.inside.Slots.{slot_rank, name_rank}

-- elements of which those that pass a test have one rank, in order; the first ones have less
module _ {X : Type 0} (rank : X → ℕ) (test : X → Bool) (t : ℕ) (exact : (x : X) → test x ≡ true → rank x ≡ t)
    (xs : List X) (next : ℕ) (before : (k : ℕ) (d : X) → k < next → rank (slice_index_or xs k d) < t) where
  other : (x : X) (b : Bool) → test x ≡ b → (rank x < t) ⊎ (t < rank x) → b ≡ false
  other x false is far = refl
  other x true is (inl less) = let here = exact x is in absurd (omega (arith, here, less))
  other x true is (inr more) = let here = exact x is in absurd (omega (arith, here, more))

  -- none passes where all have less
  pub none_there : length xs ≤ next → list_any test xs ≡ false
  none_there past =
      list_any_none test xs
      (λ k d within. let x = slice_index_or xs k d in other x (test x) refl (inl (before k d (omega arith))))

  found_case : (x : X) (is : Bool) → test x ≡ is → IsNonDecreasingBy rank xs → next < length xs →
      ((d : X) → x ≡ slice_index_or xs next d) → (rank x ≡ t → test x ≡ true) → t ≤ rank x → is ≡ list_any test xs
  found_case x true passes sorted within here own after =
      sym (list_any_at test xs next x within (ap test (sym (here x)) ∙ passes))
  found_case x false fails sorted within here own after =
      let far : t < rank x = elim (cases_lt t (rank x)) [
        | inl less ↦ less
        | inr most ↦ (let passes = own (omega (arith, most, after)) in let none : true ≡ false = sym passes ∙ fails in cc)
      ] in
      sym (list_any_none test xs
      (λ k d inside. let y = slice_index_or xs k d in
      elim (cases_lt k next) [
        | inl less ↦ other y (test y) refl (inl (before k d less))
        | inr most ↦ (
            let up : rank (slice_index_or xs next d) ≤ rank y = sorted next k d most inside in
            let past : rank x ≤ rank y = subst (λ (z : X). rank z ≤ rank y) (sym (here d)) up in
            other y (test y) refl (inr (omega (arith, far, past))))
      ]))

  -- the first one that doesn't have less tells whether one passes
  pub first_there : (x : X) → IsNonDecreasingBy rank xs → next < length xs → ((d : X) → x ≡ slice_index_or xs next d) →
      (rank x ≡ t → test x ≡ true) → t ≤ rank x → test x ≡ list_any test xs
  first_there x sorted within here own after = found_case x (test x) refl sorted within here own after

-- the rank of a place
abbrev pub rank_at : ℕ → ℕ → ℕ → ℕ
rank_at file section offset = (file * 2 ^ 32 + section) * 2 ^ 64 + offset

pub place_exact : (file section offset : ℕ) (s : Slot) → is_slot_at file section offset s ≡ true → slot_rank s ≡ rank_at file section offset
place_exact file section offset s is = grind (arith, nat_tests, is)

place_case : (f i o file section offset : ℕ) → i < 2 ^ 32 → o < 2 ^ 64 → section < 2 ^ 32 → offset < 2 ^ 64 →
    (f * 2 ^ 32 + i) * 2 ^ 64 + o ≡ (file * 2 ^ 32 + section) * 2 ^ 64 + offset → (eqb f file && eqb i section && eqb o offset) ≡ true
place_case f i o file section offset fits_i fits_o fits_section fits_offset same =
    let a : f ≡ file = omega arith in
    let b : i ≡ section = omega arith in
    let c : o ≡ offset = omega arith in
    grind (arith, nat_tests)

pub place_own : (file section offset : ℕ) (s : Slot) → s.id.section < 2 ^ 32 → s.offset < 2 ^ 64 → section < 2 ^ 32 → offset < 2 ^ 64 →
    slot_rank s ≡ rank_at file section offset → is_slot_at file section offset s ≡ true
place_own file section offset s fits_i fits_o fits_section fits_offset same =
    place_case s.id.file s.id.section s.offset file section offset fits_i fits_o fits_section fits_offset same

-- the rank of an address
abbrev pub named_at : ℕ → ℕ → ℕ
named_at file number = file * 2 ^ 64 + number

pub name_exact : (file number : ℕ) (s : Slot) → is_slot_named file number s ≡ true → name_rank s ≡ named_at file number
name_exact file number s is = grind (arith, nat_tests, is)

name_case : (f a file number : ℕ) → a < 2 ^ 64 → number < 2 ^ 64 → f * 2 ^ 64 + a ≡ file * 2 ^ 64 + number →
    (eqb f file && eqb a number) ≡ true
name_case f a file number fits fits_number same =
    let b : f ≡ file = omega arith in
    let c : a ≡ number = omega arith in
    grind (arith, nat_tests)

pub name_own : (file number : ℕ) (s : Slot) → s.address < 2 ^ 64 → number < 2 ^ 64 → name_rank s ≡ named_at file number →
    is_slot_named file number s ≡ true
name_own file number s fits fits_number same = name_case s.id.file s.address file number fits fits_number same

pub name_parts : (file number : ℕ) (s : Slot) → is_slot_named file number s ≡ true → (s.id.file ≡ file) × (s.address ≡ number)
name_parts file number s is = (grind (arith, nat_tests, is), grind (arith, nat_tests, is))
