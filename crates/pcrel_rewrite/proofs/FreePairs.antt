-- Pairs behind whose load no field has bytes, up to the end of their access.
use Rattle.std.proofs.Common.{◌≡◌, ◌<◌, ◌≤◌, ◌+◌, ◌-◌, ℕ, Bool, true, false, not, List, None, Some, slice_get, length, sym, ◌∙◌, subst, refl, arith, IsTrue}
use Rattle.std.specs.List.{list_any}
use Rattle.object_set.specs.declared.places.SectionId.{SectionId}
use Rattle.object_set.specs.Files.{file_at}
use Rattle.object_set.specs.Refusals.{set_refusal}
use Rattle.symbol_table.specs.Fields.{fields_of, meets}
use Rattle.symbol_table.specs.Text.{text_sections}
use Rattle.symbol_table.specs.laws.Text.{text_section_at}
use Rattle.pcrel_rewrite.specs.declared.text_pairs.TextPair.{TextPair}
use Rattle.pcrel_rewrite.specs.inside.Recognised.{AskedOf, IsFree}
use Rattle.pcrel_rewrite.proofs.Gathering.{some_is}
use Rattle.pcrel_rewrite.proofs.Lengths.{section_short}
use Rattle.pcrel_rewrite.proofs.FilePairs.{asked_words, asked_place}

not_true : (b : Bool) → not b ≡ true → b ≡ false
not_true true is = cc
not_true false is = refl

not_false : (b : Bool) → b ≡ false → not b ≡ true
not_false true is = cc
not_false false is = refl

-- a look at the fields tells
pub free_case : (files : List (List ℕ)) (pair : TextPair) (s : SectionId) (any : Bool) →
    slice_get (text_sections files) pair.section ≡ Some s →
    any ≡ list_any (meets s.section (pair.head + 8) (pair.tail + 4 - (pair.head + 8))) (fields_of s.file (file_at files s.file)) →
    (IsTrue (not any) → IsFree files pair) × (IsFree files pair → IsTrue (not any))
free_case files pair s any place looked = (
  λ t. record { place = s; place_is = place; untouched = sym looked ∙ not_true any t },
  λ free.
      let same : free.place ≡ s = some_is free.place s (sym free.place_is ∙ place) in
      not_false any (looked
      ∙ subst (λ (p : SectionId).
      list_any (meets p.section (pair.head + 8) (pair.tail + 4 - (pair.head + 8))) (fields_of p.file (file_at files p.file)) ≡ false) same
      free.untouched),
)

-- no access ends past what a file may hold
pub pair_end : (files : List (List ℕ)) (file : ℕ) → set_refusal files ≡ None → file < length files → (pair : TextPair) →
    AskedOf files file pair → pair.tail + 4 ≤ 0x10000000
pair_end files file whole file_in pair asked =
    let at = asked_place files file whole file_in pair asked in
    let words = (asked_words files file whole file_in pair at.0 asked at.1).1 in
    let here = text_section_at files pair.section at.0 at.1 in
    let short = section_short files at.0.file at.0.section whole here.file_in in
    let within = words.within in
    omega (arith, short, within)
