-- The words of text sections, and places of words.
use Rattle.std.proofs.Common.{◌≡◌, ◌<◌, ◌≤◌, ◌*◌, ◌/◌, ◌%◌, ◌+◌, eqb, ltb, ℕ, zero, suc, true, false, List, [], ◌∷◌, length, Option, None, Some, slice_get, slice_index, sym, ap, ◌∙◌, refl, arith}
use Rattle.std.specs.List.{slice_index_or}
use Rattle.std.specs.Option.{option_map}
use Rattle.std.proofs.lemmas.Bool.{and_parts, false_from_ne_true}
use Rattle.std.proofs.lemmas.Bool.Decides.{nat_tests}
use Rattle.std.proofs.lemmas.List.{length-replicate, length-map}
use Rattle.std.proofs.lemmas.Option.{slice_get_within, slice_get-get_or, get_or_from_slice_get, slice_get-map}
use Rattle.elf64_records.specs.Sections.{sh_size, section_bytes}
use Rattle.object_set.specs.declared.places.SectionId.{SectionId}
use Rattle.object_set.specs.Files.{file_at}
use Rattle.object_set.specs.Refusals.{set_refusal}
use Rattle.symbol_table.specs.Text.{text_sections}
use Rattle.symbol_table.specs.laws.Text.{text_section_at}
use Rattle.call_sites.specs.Sites.{no_section}
use Rattle.call_sites.specs.laws.TextFacts.{text_fit}
use Rattle.call_sites.specs.laws.TextSizes.{text_whole}
use Rattle.plain_machine.specs.declared.place.TextPlace.{TextPlace}
use Rattle.plain_run.specs.declared.marks.Mark.{Mark}
use Rattle.plain_run.specs.declared.marks.Mark.TheVariants as mark
use Rattle.plain_run.specs.Standing.{is_word, section_at, text_size, text_sizes, place_before}
use Rattle.plain_run.specs.inside.Marks.{MarkedSection, TextShape, shape_of, HasMark, IsTextAt, AreTexts, unmarked_section, unmarked_sections, word_place}
use Rattle.plain_run.proofs.WrittenMarks.{mark_of_found}

-- what was made of an option is made of what is in it
mapped_case : {X Y : Type 0} (f : X → Y) (o : Option X) (y : Y) → option_map f o ≡ Some y → (x : X) × (o ≡ Some x) × (f x ≡ y)
mapped_case f None y is = cc
mapped_case f (Some x) y is = (x, refl, cc)

module _ (files : List (List ℕ)) (whole : set_refusal files ≡ None) where
  text_is : (k : ℕ) (s : SectionId) (m : MarkedSection) → slice_get (text_sections files) k ≡ Some s →
      shape_of m ≡ shape_of (unmarked_section files s) → IsTextAt files k s m
  text_is k s m found same =
      let b = file_at files s.file in
      let lies = text_section_at files k s found in
      let stored = text_whole files s.file s.section whole lies.file_in lies.within lies.text in
      let fit = text_fit files k s whole found in
      let words = ap (λ (t : TextShape). t.words) same ∙ length-replicate (length (section_bytes b s.section) / 4) mark.Word in
      record {
        found = found;
        lies = lies;
        id_is = ap (λ (t : TextShape). t.id) same;
        align_is = ap (λ (t : TextShape). t.align) same;
        bytes_are = ap (λ (t : TextShape). t.bytes) same;
        stored = stored;
        count = omega (arith, words, stored, fit.whole);
      }

  module _ (sections : List MarkedSection) (texts : AreTexts files sections) where
    same_at : (k : ℕ) →
        option_map shape_of (slice_get sections k) ≡ option_map shape_of (slice_get (unmarked_sections files) k)
    same_at k =
        sym (slice_get-map shape_of sections k) ∙ ap (λ (l : List TextShape). slice_get l k) texts
        ∙ slice_get-map shape_of (unmarked_sections files) k

    pub text_kept : (k : ℕ) (m : MarkedSection) → slice_get sections k ≡ Some m → (s : SectionId) × IsTextAt files k s m
    text_kept k m found =
        let same : option_map shape_of (slice_get (unmarked_sections files) k) ≡ Some (shape_of m) =
        sym (same_at k) ∙ ap (option_map shape_of) found in
        let own = mapped_case shape_of (slice_get (unmarked_sections files) k) (shape_of m) same in
        let made = mapped_case (unmarked_section files) (slice_get (text_sections files) k) own.0
        (sym (slice_get-map (unmarked_section files) (text_sections files) k) ∙ own.1) in
        (made.0, text_is k made.0 m made.1 (sym (ap shape_of made.2 ∙ own.2)))

    pub kept_text : (k : ℕ) (s : SectionId) → slice_get (text_sections files) k ≡ Some s →
        (m : MarkedSection) × (slice_get sections k ≡ Some m) × IsTextAt files k s m
    kept_text k s found =
        let made : slice_get (unmarked_sections files) k ≡ Some (unmarked_section files s) =
        slice_get-map (unmarked_section files) (text_sections files) k ∙ ap (option_map (unmarked_section files)) found in
        let same : option_map shape_of (slice_get sections k) ≡ Some (shape_of (unmarked_section files s)) =
        same_at k ∙ ap (option_map shape_of) made in
        let own = mapped_case shape_of (slice_get sections k) (shape_of (unmarked_section files s)) same in
        (own.0, own.1, text_is k s own.0 found own.2)

    -- as many are kept as there are
    pub kept_count : length sections ≡ length (text_sections files)
    kept_count =
        sym (length-map sections shape_of) ∙ ap (λ (l : List TextShape). length l) texts ∙ length-map (unmarked_sections files) shape_of
        ∙ length-map (text_sections files) (unmarked_section files)

    -- a word has a mark
    pub has_mark : (k w : ℕ) (s : SectionId) → slice_get (text_sections files) k ≡ Some s →
        4 * w < sh_size (file_at files s.file) s.section → HasMark sections k w
    has_mark k w s found within =
        let kept = kept_text k s found in
        let m = kept.0 in
        let count = kept.2.count in
        let inside : w < length m.marks = omega (arith, count, within) in
        (slice_index_or m.marks w mark.Word, mark_of_found sections k w m kept.1 ∙ slice_get-get_or m.marks w mark.Word inside)

-- where a word stands
pub record IsWordOf (files : List (List ℕ)) (p : TextPlace) : Type 0 where
  pub place : SectionId
  pub found : slice_get (text_sections files) p.section ≡ Some place
  pub own : section_at files p ≡ place
  pub within : p.offset < sh_size (file_at files place.file) place.section
  pub fourth : p.offset % 4 ≡ 0
  pub is : p ≡ word_place p.section (p.offset / 4)

none_positive : (xs : List ℕ) (k : ℕ) → slice_get xs k ≡ None → 0 < slice_index xs k → ⊥
none_positive [] k none some = omega (arith, some)
none_positive (x ∷ xs) zero none some = cc
none_positive (x ∷ xs) (suc k) none some = none_positive xs k none some

size_at : (files : List (List ℕ)) (k : ℕ) (s : SectionId) → slice_get (text_sections files) k ≡ Some s →
    slice_index (text_sizes files) k ≡ text_size files s
size_at files k s found =
    get_or_from_slice_get (text_sizes files) k (text_size files s) 0
    (slice_get-map (text_size files) (text_sections files) k ∙ ap (option_map (text_size files)) found)

size_case : (files : List (List ℕ)) (k : ℕ) (o : Option SectionId) → slice_get (text_sections files) k ≡ o →
    0 < slice_index (text_sizes files) k → (s : SectionId) × (slice_get (text_sections files) k ≡ Some s)
size_case files k (Some s) found some = (s, found)
size_case files k None found some =
    let none : slice_get (text_sizes files) k ≡ None =
    slice_get-map (text_size files) (text_sections files) k ∙ ap (option_map (text_size files)) found in
    absurd (none_positive (text_sizes files) k none some)

pub same_place : (p : TextPlace) → p.offset % 4 ≡ 0 → p ≡ word_place p.section (p.offset / 4)
same_place p fourth =
    let same : p.offset ≡ 4 * (p.offset / 4) = omega (arith, fourth) in
    ap (λ (n : ℕ). record { section = p.section; offset = n }) same

pub word_is : (files : List (List ℕ)) (p : TextPlace) → is_word files p ≡ true → IsWordOf files p
word_is files p is =
    let parts = and_parts (ltb p.offset (slice_index (text_sizes files) p.section)) (eqb (p.offset % 4) 0) is in
    let first = parts.0 in
    let second = parts.1 in
    let less : p.offset < slice_index (text_sizes files) p.section = grind (arith, nat_tests, first) in
    let fourth : p.offset % 4 ≡ 0 = grind (arith, nat_tests, second) in
    let there = size_case files p.section (slice_get (text_sections files) p.section) refl (omega (arith, less)) in
    record {
      place = there.0;
      found = there.1;
      own = get_or_from_slice_get (text_sections files) p.section there.0 no_section there.1;
      within = omega (arith, less, size_at files p.section there.0 there.1);
      fourth = fourth;
      is = same_place p fourth;
    }

pub is_word_at : (files : List (List ℕ)) (p : TextPlace) (s : SectionId) → slice_get (text_sections files) p.section ≡ Some s →
    p.offset < sh_size (file_at files s.file) s.section → p.offset % 4 ≡ 0 → is_word files p ≡ true
is_word_at files p s found within fourth =
    let size = size_at files p.section s found in
    let less : p.offset < slice_index (text_sizes files) p.section = omega (arith, within, size) in
    grind (arith, nat_tests, less, fourth)

-- the word before is one too
pub word_before : (files : List (List ℕ)) (p : TextPlace) → is_word files p ≡ true → 4 ≤ p.offset → is_word files (place_before p) ≡ true
word_before files p is least =
    let word = word_is files p is in
    let within = word.within in
    let fourth = word.fourth in
    is_word_at files (place_before p) word.place word.found (omega (arith, within)) (omega (arith, fourth, least))

-- ---- places where no word stands

not_word : (files : List (List ℕ)) (p : TextPlace) → (IsWordOf files p → ⊥) → is_word files p ≡ false
not_word files p never = false_from_ne_true (is_word files p) (λ is. never (word_is files p is))

pub not_fourth : (files : List (List ℕ)) (p : TextPlace) → (p.offset % 4 ≡ 0 → ⊥) → is_word files p ≡ false
not_fourth files p differs = not_word files p (λ word. differs word.fourth)

pub past_texts : (files : List (List ℕ)) (p : TextPlace) → length (text_sections files) ≤ p.section → is_word files p ≡ false
past_texts files p past =
    not_word files p
    (λ word. let within = slice_get_within (text_sections files) p.section word.place word.found in omega (arith, past, within))

module _ (files : List (List ℕ)) (p : TextPlace) (m : MarkedSection) (text : IsTextAt files p.section (section_at files p) m) where
  -- a word has a mark
  pub word_marked : is_word files p ≡ true → p.offset / 4 < length m.marks
  word_marked is =
      let word = word_is files p is in
      let within = word.within in
      let size = ap (λ (s : SectionId). sh_size (file_at files s.file) s.section) word.own in
      let count = text.count in
      omega (arith, within, size, count)

  pub word_within : is_word files p ≡ true →
      p.offset + 4 ≤ length (section_bytes (file_at files (section_at files p).file) (section_at files p).section)
  word_within is =
      let word = word_is files p is in
      let within = word_marked is in
      let fourth = word.fourth in
      let count = text.count in
      let stored = text.stored in
      omega (arith, within, fourth, count, stored)

  pub no_mark : (o : Option Mark) → o ≡ slice_get m.marks (p.offset / 4) → o ≡ None → is_word files p ≡ false
  no_mark o is none =
      false_from_ne_true (is_word files p)
      (λ word. (let some = slice_get-get_or m.marks (p.offset / 4) mark.Word (word_marked word) in
      let both : None ≡ Some (slice_index_or m.marks (p.offset / 4) mark.Word) = sym none ∙ is ∙ some in
      cc))

  pub marked_word : (x : Mark) → p.offset % 4 ≡ 0 → slice_get m.marks (p.offset / 4) ≡ Some x → is_word files p ≡ true
  marked_word x fourth found =
      let within = slice_get_within m.marks (p.offset / 4) x found in
      let count = text.count in
      is_word_at files p (section_at files p) text.found (omega (arith, within, count, fourth)) fourth

-- its section is one of text
pub section_in : (files : List (List ℕ)) (p : TextPlace) → is_word files p ≡ true → p.section < length (text_sections files)
section_in files p is =
    let word = word_is files p is in
    slice_get_within (text_sections files) p.section word.place word.found
