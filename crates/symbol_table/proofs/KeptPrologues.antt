-- Places with two entry points, of which those with a recognised prologue are kept.
use Rattle.std.proofs.Common.{◌≡◌, ◌<◌, ℕ, Bool, true, false, ◌&&◌, ◌||◌, eqb, ltb, List, [], ◌∷◌, ap, ◌∙◌, refl, arith}
use Rattle.std.specs.List.{list_any, filter}
use Rattle.std.proofs.lemmas.Bool.Decides.{nat_tests}
use Rattle.elf64_records.specs.FileHeader.{e_shnum}
use Rattle.object_set.specs.Sections.{is_text}
use Rattle.symbol_table.specs.declared.places.FilePlace.{FilePlace}
use Rattle.symbol_table.specs.Prologue.{has_two_entries, has_some_form, has_recognised_prologue}
use Rattle.symbol_table.specs.inside.Places.{is_place}
use Rattle.symbol_table.specs.inside.Entries.{has_prologue, AreEntries}
use Rattle.symbol_table.specs.laws.FilteredLists.{list_any-filter}

-- a place is itself
pub own_place : (p : FilePlace) → is_place p.section p.offset p ≡ true
own_place p = grind (arith, nat_tests)

same_section : (s o section at : ℕ) → (eqb s section && eqb o at) ≡ true → s ≡ section
same_section s o section at same = grind (arith, nat_tests, same)

same_offset : (s o section at : ℕ) → (eqb s section && eqb o at) ≡ true → o ≡ at
same_offset s o section at same = grind (arith, nat_tests, same)

below : (m n : ℕ) → m < n → ltb m n ≡ true
below m n less = grind (arith, nat_tests)

kept_case : (passes rest known : Bool) → ((known && passes) || (rest && known)) ≡ ((passes || rest) && known)
kept_case true true true = refl
kept_case true true false = refl
kept_case true false true = refl
kept_case true false false = refl
kept_case false true true = refl
kept_case false true false = refl
kept_case false false true = refl
kept_case false false false = refl

left_case : (kept rest known : Bool) → ((kept && false) || (rest && known)) ≡ (rest && known)
left_case true rest known = refl
left_case false rest known = refl

module _ {X : Type 0} (keep test : X → Bool) (known : Bool) (is : (x : X) → test x ≡ true → keep x ≡ known) where
  passing_case : (x : X) (passes rest : Bool) → test x ≡ passes → ((keep x && passes) || (rest && known)) ≡ ((passes || rest) && known)
  passing_case x true rest passes =
      ap (λ (k : Bool). (k && true) || (rest && known)) (is x passes) ∙ kept_case true rest known
  passing_case x false rest passes = left_case (keep x) rest known

  -- what is kept passes a test where all that passes is kept or left out alike
  any_passing : (xs : List X) → list_any (λ x. keep x && test x) xs ≡ (list_any test xs && known)
  any_passing [] = refl
  any_passing (x ∷ xs) =
      ap (λ (b : Bool). (keep x && test x) || b) (any_passing xs) ∙ passing_case x (test x) (list_any test xs) refl

two_case : (text two form : Bool) → (two && (text && two && form)) ≡ (text && two && form)
two_case true true form = refl
two_case true false form = refl
two_case false true form = refl
two_case false false form = refl

two_needed : (file : ℕ) (b : List ℕ) (section at : ℕ) →
    (has_two_entries b section at && has_recognised_prologue file b section at) ≡ has_recognised_prologue file b section at
unfolding has_recognised_prologue
two_needed file b section at = two_case (is_text b section) (has_two_entries b section at) (has_some_form file b section at)

kept_place : (file : ℕ) (b : List ℕ) (section at : ℕ) (p : FilePlace) → section < e_shnum b → is_place section at p ≡ true →
    has_prologue file b p ≡ has_recognised_prologue file b section at
kept_place file b section at p within is =
    let own = same_section p.section p.offset section at is in
    let there = same_offset p.section p.offset section at is in
    ap (λ (s : ℕ). ltb s (e_shnum b) && has_recognised_prologue file b s p.offset) own
    ∙ ap (λ (o : ℕ). ltb section (e_shnum b) && has_recognised_prologue file b section o) there
    ∙ ap (λ (x : Bool). x && has_recognised_prologue file b section at) (below section (e_shnum b) within)

-- one of the places kept is this one exactly where it has a recognised prologue
pub kept_recognised : (file : ℕ) (b : List ℕ) (entries places : List FilePlace) (section at : ℕ) → AreEntries b entries →
    places ≡ filter (has_prologue file b) entries → section < e_shnum b →
    list_any (is_place section at) places ≡ has_recognised_prologue file b section at
kept_recognised file b entries places section at are is within =
    let keep = has_prologue file b in
    let test = is_place section at in
    let known = has_recognised_prologue file b section at in
    ap (list_any test) is ∙ list_any-filter keep test entries
    ∙ any_passing keep test known (λ p passes. kept_place file b section at p within passes) entries
    ∙ ap (λ (x : Bool). x && known) (are section at)
    ∙ two_needed file b section at
