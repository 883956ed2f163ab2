-- Text sections and their numbers are told by one another.
use Rattle.std.proofs.Common.{◌≡◌, ◌<◌, ℕ, zero, suc, Bool, true, false, List, [], ◌∷◌, length, Some, None, slice_get, sym, ap, ◌∙◌, refl}
use Rattle.std.proofs.Common.{arith, subst, add-zero, if◌then◌else◌}
use Rattle.std.proofs.lemmas.Option.{slice_get_within}
use Rattle.elf64_records.specs.FileHeader.{e_shnum}
use Rattle.object_set.specs.declared.places.SectionId.{SectionId}
use Rattle.object_set.specs.Files.{file_at}
use Rattle.object_set.specs.Sections.{is_text}
use Rattle.object_set.specs.laws.Walks.{item_at, item_from}
use Rattle.symbol_table.specs.Text.{text_at, text_walk, text_sections, text_index, text_number}

abbrev section : ℕ → ℕ → SectionId
section file i = record { file = file; section = i }

-- a text section has the number of its place
pub text_index_found : (set : List (List ℕ)) (file i : ℕ) →
    file < length set →
    i < e_shnum (file_at set file) →
    is_text (file_at set file) i ≡ true →
    slice_get (text_sections set) (text_index set file i) ≡ Some (section file i)
text_index_found set file i file_in within text =
    let this : text_at file (file_at set file) i ≡ section file i ∷ [] =
    ap (λ (t : Bool). if t then section file i ∷ [] else []) text in
    let here : slice_get (text_at file (file_at set file) i) 0 ≡ Some (section file i) = ap (λ (l : List SectionId). slice_get l 0) this in
    ap (slice_get (text_sections set)) (sym (add-zero (text_index set file i)))
    ∙ item_at text_walk set file i 0 (section file i) file_in within here

-- it is one of the numbered ones
pub text_index_within : (set : List (List ℕ)) (file i : ℕ) →
    file < length set →
    i < e_shnum (file_at set file) →
    is_text (file_at set file) i ≡ true →
    text_index set file i < length (text_sections set)
text_index_within set file i file_in within text =
    slice_get_within (text_sections set) (text_index set file i) (section file i) (text_index_found set file i file_in within text)

-- a section of a file that is text, with its number
pub record IsTextSection (set : List (List ℕ)) (k file section : ℕ) : Type 0 where
  pub file_in : file < length set
  pub within : section < e_shnum (file_at set file)
  pub text : is_text (file_at set file) section ≡ true
  pub index : text_index set file section ≡ k

-- what stands at a section's number is the section, where it is text
at_case : (file : ℕ) (b : List ℕ) (i k : ℕ) (s : SectionId) (t : Bool) → is_text b i ≡ t →
    slice_get (if t then section file i ∷ [] else []) k ≡ Some s →
    (k ≡ 0) × (section file i ≡ s) × (t ≡ true)
at_case file b i k s false text found = cc
at_case file b i zero s true text found = (refl, cc, refl)
at_case file b i (suc k) s true text found = cc

-- number k is that of a text section
pub text_section_at : (set : List (List ℕ)) (k : ℕ) (s : SectionId) →
    slice_get (text_sections set) k ≡ Some s →
    IsTextSection set k s.file s.section
text_section_at set k s found =
    let is = item_from text_walk set k s found in
    let this = at_case is.file (file_at set is.file) is.number is.offset s (is_text (file_at set is.file) is.number) refl is.here in
    let inside : IsTextSection set k is.file is.number = record {
      file_in = is.file_in;
      within = is.within;
      text = this.2;
      index = omega (arith, is.index, this.0);
    } in
    subst (λ (t : SectionId). IsTextSection set k t.file t.section) this.1 inside

-- and the section's number is k
pub text_number_at : (set : List (List ℕ)) (k : ℕ) (s : SectionId) →
    slice_get (text_sections set) k ≡ Some s →
    text_number set s.file s.section ≡ Some k
text_number_at set k s found =
    let this = text_section_at set k s found in
    ap (λ (t : Bool). if t then Some (text_index set s.file s.section) else None) this.text ∙ ap Some this.index
