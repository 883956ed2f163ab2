-- Accesses of recognised pairs, by their words.
use Rattle.std.proofs.Common.{◌≡◌, ◌<◌, ◌*◌, ◌/◌, ◌%◌, ◌&&◌, inl, inr, ℕ, zero, suc, Bool, true, false, eqb, List, [], ◌∷◌, None, Some, slice_get, sym, ap, ◌∙◌, subst, refl, arith}
use Rattle.std.specs.List.{Contains}
use Rattle.std.proofs.lemmas.Bool.{and_parts, cases_lt}
use Rattle.std.proofs.lemmas.Bool.Decides.{nat_tests}
use Rattle.std.proofs.lemmas.Option.{slice_get_within, get_or_from_slice_get, same_Some}
use Rattle.elf64_records.specs.First.{◌orelse◌, when}
use Rattle.elf64_records.specs.Records.{rela_of}
use Rattle.elf64_records.specs.Sections.{sh_size}
use Rattle.object_set.specs.declared.places.RecordId.{RecordId}
use Rattle.object_set.specs.declared.places.SectionId.{SectionId}
use Rattle.object_set.specs.Files.{file_at}
use Rattle.object_set.specs.Refusals.{set_refusal}
use Rattle.symbol_table.specs.Fields.{field_of, meets}
use Rattle.symbol_table.specs.Records.{records_refusal}
use Rattle.symbol_table.specs.Text.{text_sections}
use Rattle.symbol_table.specs.laws.Text.{text_section_at}
use Rattle.call_sites.specs.laws.TextSizes.{text_whole}
use Rattle.pcrel_rewrite.specs.declared.text_pairs.TextPair.{TextPair}
use Rattle.pcrel_rewrite.specs.Pairs.{IsPair, IsRecognised}
use Rattle.pcrel_rewrite.specs.TextPairs.{head_at}
use Rattle.pcrel_rewrite.specs.laws.Pairs.{load_sound, pairs_apart, record_spared, no_field_between}
use Rattle.plain_run.specs.inside.Marks.{Meets}
use Rattle.plain_run.proofs.WordFields.{field_meets}

-- the access of a recognised pair: a word of its section, of which no record has bytes
pub record IsAccessOf (files : List (List ℕ)) (pair : TextPair) : Type 0 where
  pub place : SectionId
  pub found : slice_get (text_sections files) pair.section ≡ Some place
  pub is : IsPair files place pair.head pair.tail
  pub fourth : pair.tail % 4 ≡ 0
  pub within : pair.tail < sh_size (file_at files place.file) place.section
  pub free : (r : RecordId) → Meets files r pair.section (pair.tail / 4) → ⊥

pub get_held : (pairs : List TextPair) (i : ℕ) (pair : TextPair) → slice_get pairs i ≡ Some pair → Contains pairs pair
get_held pairs i pair found = (i, slice_get_within pairs i pair found, get_or_from_slice_get pairs i pair pair found)

module _ (files : List (List ℕ)) (whole : set_refusal files ≡ None) (none : records_refusal files ≡ None) where
  -- the head of a pair is an instruction
  pub head_whole : (s : SectionId) (head tail : ℕ) → IsPair files s head tail → head % 4 ≡ 0
  head_whole s head tail pair =
      let r = pair.load.record_id in
      let here = pair.load.here in
      let sound = load_sound files s head r none here in
      let own = ap (λ (f : ℕ). (rela_of (file_at files f) r.table r.entry).offset) here.file_is ∙ here.offset_is in
      ap (λ (n : ℕ). n % 4) (sym own) ∙ sound.aligned refl

  access_free : (s : SectionId) (k head tail : ℕ) (r : RecordId) → slice_get (text_sections files) k ≡ Some s → IsPair files s head tail →
      tail % 4 ≡ 0 → Meets files r k (tail / 4) → ⊥
  access_free s k head tail r found pair fourth is =
      let b = file_at files s.file in
      let own : record { file = r.file; section = r.section } ≡ s =
      same_Some (record { file = r.file; section = r.section }) s (sym is.field.section ∙ found) in
      let file : r.file ≡ s.file = ap (λ (t : SectionId). t.file) own in
      let section : r.section ≡ s.section = ap (λ (t : SectionId). t.section) own in
      let near = pair.words.near in
      let least = near.least in
      let spared = record_spared files s.file r (meets s.section tail 4) is.field.here file
      (no_field_between files s head tail tail 4 pair least (omega arith)) in
      let at : 4 * (tail / 4) ≡ tail = omega (arith, fourth) in
      let met : meets s.section tail 4 (field_of b r) ≡ true =
      ap (λ (n : ℕ). meets n tail 4 (field_of b r)) (sym section)
      ∙ ap (λ (n : ℕ). meets r.section n 4 (field_of b r)) (sym at)
      ∙ ap (λ (n : ℕ). meets r.section (4 * (tail / 4)) 4 (field_of (file_at files n) r)) (sym file)
      ∙ field_meets files r k (tail / 4) is in
      cc

  pub access_of : (pair : TextPair) → IsRecognised files pair → IsAccessOf files pair
  access_of pair is =
      let s = is.place in
      let b = file_at files s.file in
      let lies = text_section_at files pair.section s is.place_is in
      let stored = text_whole files s.file s.section whole lies.file_in lies.within lies.text in
      let first = head_whole s pair.head pair.tail is.is in
      let near = is.is.words.near in
      let least = near.least in
      let aligned = near.aligned in
      let inside = is.is.words.within in
      let fourth : pair.tail % 4 ≡ 0 = omega (arith, first, least, aligned) in
      record {
        place = s;
        found = is.place_is;
        is = is.is;
        fourth = fourth;
        within = omega (arith, inside, stored);
        free = λ r met. access_free s pair.section pair.head pair.tail r is.place_is is.is fourth met;
      }

  -- two pairs of one access have one load
  later_head : (s : SectionId) (head other tail : ℕ) → IsPair files s head tail → IsPair files s other tail → head < other → ⊥
  later_head s head other tail one two less =
      let behind = pairs_apart files s head tail other tail none one two less in
      let near = two.words.near in
      let least = near.least in
      omega (arith, behind, least)

  pub one_head : (p q : TextPair) → IsRecognised files p → IsRecognised files q → p.section ≡ q.section → p.tail ≡ q.tail → p.head ≡ q.head
  one_head p q one two section tail =
      let place : two.place ≡ one.place =
      same_Some two.place one.place
      (sym two.place_is ∙ ap (λ (n : ℕ). slice_get (text_sections files) n) (sym section) ∙ one.place_is) in
      let other : IsPair files one.place q.head p.tail =
      subst (λ (n : ℕ). IsPair files one.place q.head n) (sym tail)
      (subst (λ (s : SectionId). IsPair files s q.head q.tail) place two.is) in
      elim (cases_lt p.head q.head) [
        | inl less ↦ absurd (later_head one.place p.head q.head p.tail one.is other less)
        | inr most ↦ elim (cases_lt q.head p.head) [
          | inl more ↦ absurd (later_head one.place q.head p.head p.tail other one.is more)
          | inr least ↦ omega (arith, most, least)
        ]
      ]

-- the first load among pairs of which the access stands at an offset
module _ (k offset : ℕ) where
  abbrev ends : TextPair → Bool
  ends p = eqb p.section k && eqb p.tail offset

  parts : (p : TextPair) → ends p ≡ true → (p.section ≡ k) × (p.tail ≡ offset)
  parts p is =
      let both = and_parts (eqb p.section k) (eqb p.tail offset) is in
      let first = both.0 in
      let second = both.1 in
      (grind (arith, nat_tests, first), grind (arith, nat_tests, second))

  pub ends_there : (p : TextPair) → p.section ≡ k → p.tail ≡ offset → ends p ≡ true
  ends_there p section tail = grind (arith, nat_tests, section, tail)

  none_case : (p : TextPair) (ps : List TextPair) (t : Bool) → ends p ≡ t → (ends p ≡ true → ⊥) → head_at ps k offset ≡ None →
      head_at (p ∷ ps) k offset ≡ None
  none_case p ps true is never rest = absurd (never is)
  none_case p ps false is never rest = ap (λ (t : Bool). when t p.head orelse head_at ps k offset) is ∙ rest

  pub head_none : (pairs : List TextPair) →
      ((i : ℕ) (p : TextPair) → slice_get pairs i ≡ Some p → p.section ≡ k → p.tail ≡ offset → ⊥) → head_at pairs k offset ≡ None
  head_none [] never = refl
  head_none (p ∷ ps) never =
      none_case p ps (ends p) refl (λ is. let both = parts p is in never 0 p refl both.0 both.1)
      (head_none ps (λ i q found. never (suc i) q found))

  some_case : (p : TextPair) (ps : List TextPair) (head : ℕ) (t : Bool) → ends p ≡ t → (ends p ≡ true → p.head ≡ head) →
      (ends p ≡ false → head_at ps k offset ≡ Some head) → head_at (p ∷ ps) k offset ≡ Some head
  some_case p ps head true is here rest =
      ap (λ (t : Bool). when t p.head orelse head_at ps k offset) is ∙ ap (λ (n : ℕ). Some n) (here is)
  some_case p ps head false is here rest = ap (λ (t : Bool). when t p.head orelse head_at ps k offset) is ∙ rest is

  later : (p q : TextPair) (ps : List TextPair) (i : ℕ) → ends p ≡ false → ends q ≡ true → slice_get (p ∷ ps) i ≡ Some q →
      (j : ℕ) × (slice_get ps j ≡ Some q)
  later p q ps zero not ends_q found =
      let same : p ≡ q = cc in
      let ends_p : ends p ≡ true = ap ends same ∙ ends_q in
      absurd (cc)
  later p q ps (suc i) not ends_q found = (i, found)

  pub head_some : (pairs : List TextPair) (head i : ℕ) (p : TextPair) →
      ((j : ℕ) (q : TextPair) → slice_get pairs j ≡ Some q → q.section ≡ k → q.tail ≡ offset → q.head ≡ head) →
      slice_get pairs i ≡ Some p → ends p ≡ true → head_at pairs k offset ≡ Some head
  head_some [] head i p one found is = cc
  head_some (q ∷ qs) head i p one found is =
      some_case q qs head (ends q) refl (λ here. let both = parts q here in one 0 q refl both.0 both.1)
      (λ not. let rest = later q p qs i not is found in head_some qs head rest.0 p (λ j r at. one (suc j) r at) rest.1 is)
