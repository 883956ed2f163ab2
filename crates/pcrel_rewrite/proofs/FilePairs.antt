-- What is asked for and loaded in a file, and what is recognised there.
use Rattle.std.proofs.Common.{◌≡◌, ◌<◌, ◌+◌, ◌-◌, ℕ, pos, Bool, true, false, List, None, Some, slice_get, length, sym, ap, ◌∙◌, subst, refl, arith, if◌then◌else◌}
use Rattle.std.specs.List.{list_any}
use Rattle.std.proofs.lemmas.Option.{slice_get_within}
use Rattle.elf64_records.specs.FileHeader.{e_shnum}
use Rattle.elf64_records.specs.Records.{record_count, rela_of}
use Rattle.elf64_records.specs.Sections.{sh_info, section_bytes}
use Rattle.object_set.specs.declared.places.RecordId.{RecordId}
use Rattle.object_set.specs.declared.places.SectionId.{SectionId}
use Rattle.object_set.specs.Files.{file_at}
use Rattle.object_set.specs.Refusals.{set_refusal}
use Rattle.object_set.specs.Sections.{is_text}
use Rattle.object_set.specs.Walks.{IsRecord, record_id}
use Rattle.reloc_fields.specs.declared.kind.Kind.{Kind}
use Rattle.reloc_fields.specs.declared.kind.Kind.TheVariants.{GotPcrel34, PcrelOpt}
use Rattle.reloc_fields.specs.Table.{line_of}
use Rattle.symbol_table.specs.Fields.{fields_of, meets}
use Rattle.symbol_table.specs.Targets.{definition_of}
use Rattle.symbol_table.specs.declared.target.CodePlace.{CodePlace}
use Rattle.symbol_table.specs.Text.{text_sections, text_index, text_number}
use Rattle.symbol_table.specs.laws.Text.{text_index_found, text_number_at}
use Rattle.pcrel_rewrite.specs.declared.text_pairs.TextPair.{TextPair}
use Rattle.pcrel_rewrite.specs.Pairs.{is_number, IsRecordAt, IsRecognised}
use Rattle.pcrel_rewrite.specs.Words.{ArePairWords}
use Rattle.pcrel_rewrite.specs.inside.Gathered.{IsAskedBy, IsLoadBy}
use Rattle.pcrel_rewrite.specs.inside.Order.{head_of}
use Rattle.pcrel_rewrite.specs.inside.Recognised.{AskedOf, LoadedOf, IsFree, IsRecognisedIn}
use Rattle.pcrel_rewrite.proofs.Gathering.{some_is}
use Rattle.pcrel_rewrite.proofs.Tables.{about_within}

abbrev section : ℕ → ℕ → SectionId
section file i = record { file = file; section = i }

number_case : (files : List (List ℕ)) (file i k : ℕ) (t : Bool) → is_text (file_at files file) i ≡ t →
    (if t then Some (text_index files file i) else None) ≡ Some k → (is_text (file_at files file) i ≡ true) × (text_index files file i ≡ k)
number_case files file i k true is number = (is, some_is (text_index files file i) k number)
number_case files file i k false is number = cc

-- a section with a number among the text sections stands there
numbered : (files : List (List ℕ)) (file i k : ℕ) → file < length files → i < e_shnum (file_at files file) →
    text_number files file i ≡ Some k → slice_get (text_sections files) k ≡ Some (section file i)
numbered files file i k file_in within number =
    let parts = number_case files file i k (is_text (file_at files file) i) refl number in
    subst (λ (n : ℕ). slice_get (text_sections files) n ≡ Some (section file i)) parts.1
    (text_index_found files file i file_in within parts.0)

-- what a record asks for and loads, where its file's number stands apart
record IsAskedIn (files : List (List ℕ)) (file : ℕ) (r : RecordId) (pair : TextPair) : Type 0 where
  kind_is : (rela_of (file_at files file) r.table r.entry).kind ≡ (line_of PcrelOpt).number
  head_is : (rela_of (file_at files file) r.table r.entry).offset ≡ pair.head
  distance : (rela_of (file_at files file) r.table r.entry).addend ≡ pos (pair.tail - pair.head)
  words : ArePairWords (section_bytes (file_at files file) r.section) pair.head pair.tail

asked_in : (files : List (List ℕ)) (r : RecordId) (pair : TextPair) → IsAskedBy files r pair → IsAskedIn files r.file r pair
asked_in files r pair by = record { kind_is = by.kind_is; head_is = by.head_is; distance = by.distance; words = by.words }

record IsLoadedIn (files : List (List ℕ)) (file : ℕ) (r : RecordId) (place : CodePlace) : Type 0 where
  kind_is : (rela_of (file_at files file) r.table r.entry).kind ≡ (line_of GotPcrel34).number
  offset_is : (rela_of (file_at files file) r.table r.entry).offset ≡ place.offset
  address : is_number files (definition_of files file (rela_of (file_at files file) r.table r.entry).symbol) ≡ false

loaded_in : (files : List (List ℕ)) (r : RecordId) (place : CodePlace) → IsLoadBy files r place → IsLoadedIn files r.file r place
loaded_in files r place by = record { kind_is = by.kind_is; offset_is = by.offset_is; address = by.address }

-- something is so of a record of a file
abbrev OfFile : List (List ℕ) → ℕ → (RecordId → Type 0) → Type 0
OfFile files file By =
    let b = file_at files file in
    (i : ℕ) × (i < e_shnum b) × ((k : ℕ) × (k < record_count b i) × By (record_id file b i k))

module _ (files : List (List ℕ)) (file : ℕ) (whole : set_refusal files ≡ None) (file_in : file < length files) where
  -- such a record, which is about the text section with this number
  record IsAbout (number : ℕ) (By : RecordId → Type 0) : Type 0 where
    id : RecordId
    record_in : IsRecord files id
    file_is : id.file ≡ file
    place_is : slice_get (text_sections files) number ≡ Some (section file id.section)
    by : By id

  about : (number : ℕ) (By : RecordId → Type 0) → ((r : RecordId) → By r → text_number files r.file r.section ≡ Some number) →
      OfFile files file By → IsAbout number By
  about number By section_is found =
      let b = file_at files file in
      let i : ℕ = found.0 in
      let table_in : i < e_shnum b = found.1 in
      let k : ℕ = found.2.0 in
      let within : k < record_count b i = found.2.1 in
      let by : By (record_id file b i k) = found.2.2 in
      let inside = about_within files file i whole file_in table_in (omega (arith, within)) in
      record {
        id = record_id file b i k;
        record_in = record { file_in = file_in; table_in = table_in; within = within; section_is = refl };
        file_is = refl;
        place_is = numbered files file (sh_info b i) number file_in inside (section_is (record_id file b i k) by);
        by = by;
      }

  -- a record that asks for a pair, and one that loads an address
  asking : (pair : TextPair) → AskedOf files file pair → IsAbout pair.section (λ r. IsAskedBy files r pair)
  asking pair asked = about pair.section (λ r. IsAskedBy files r pair) (λ r by. by.section_is) asked

  loading : (place : CodePlace) → LoadedOf files file place → IsAbout place.section (λ r. IsLoadBy files r place)
  loading place loaded = about place.section (λ r. IsLoadBy files r place) (λ r by. by.section_is) loaded

  one_section : (k i j : ℕ) → slice_get (text_sections files) k ≡ Some (section file i) →
      slice_get (text_sections files) k ≡ Some (section file j) → i ≡ j
  one_section k i j a b =
      ap (λ (s : SectionId). s.section) (some_is (section file i) (section file j) (sym a ∙ b))

  pub asked_words : (pair : TextPair) (s : SectionId) → AskedOf files file pair → slice_get (text_sections files) pair.section ≡ Some s →
      (s.file ≡ file) × ArePairWords (section_bytes (file_at files s.file) s.section) pair.head pair.tail
  asked_words pair s asked place =
      let is = asking pair asked in
      let same : section file is.id.section ≡ s = some_is (section file is.id.section) s (sym is.place_is ∙ place) in
      let words : ArePairWords (section_bytes (file_at files file) is.id.section) pair.head pair.tail =
      subst (λ (f : ℕ). ArePairWords (section_bytes (file_at files f) is.id.section) pair.head pair.tail) is.file_is is.by.words in (
        ap (λ (t : SectionId). t.file) (sym same),
        subst (λ (t : SectionId). ArePairWords (section_bytes (file_at files t.file) t.section) pair.head pair.tail) same words,
      )

  pub asked_place : (pair : TextPair) → AskedOf files file pair →
      (s : SectionId) × (slice_get (text_sections files) pair.section ≡ Some s)
  asked_place pair asked = let is = asking pair asked in (section file is.id.section, is.place_is)

  pub asked_within : (pair : TextPair) → AskedOf files file pair → pair.section < length (text_sections files)
  asked_within pair asked =
      let is = asking pair asked in
      slice_get_within (text_sections files) pair.section (section file is.id.section) is.place_is

  -- a pair that is asked for, whose load is there and which is free is recognised
  pub recognised : (pair : TextPair) → AskedOf files file pair → LoadedOf files file (head_of pair) → IsFree files pair →
      IsRecognisedIn files file pair
  recognised pair asked loaded free =
      let a = asking pair asked in
      let l = loading (head_of pair) loaded in
      let own = section file a.id.section in
      let same : l.id.section ≡ a.id.section =
      one_section pair.section l.id.section a.id.section l.place_is a.place_is in
      let asks = subst (λ (f : ℕ). IsAskedIn files f a.id pair) a.file_is (asked_in files a.id pair a.by) in
      let loads = subst (λ (f : ℕ). IsLoadedIn files f l.id (head_of pair)) l.file_is (loaded_in files l.id (head_of pair) l.by) in
      let place : free.place ≡ own = some_is free.place own (sym free.place_is ∙ a.place_is) in
      record {
        is = record {
          place = own;
          place_is = a.place_is;
          is = record {
            asked = record {
              record_id = a.id;
              here = record {
                record_in = a.record_in;
                file_is = a.file_is;
                section_is = refl;
                kind_is = asks.kind_is;
                offset_is = asks.head_is;
              };
              distance = asks.distance;
            };
            words = asks.words;
            load = record {
              record_id = l.id;
              here = record {
                record_in = l.record_in;
                file_is = l.file_is;
                section_is = same;
                kind_is = loads.kind_is;
                offset_is = loads.offset_is;
              };
              address = loads.address;
            };
            untouched = subst (λ (s : SectionId). list_any
                (meets s.section (pair.head + 8) (pair.tail + 4 - (pair.head + 8)))
                (fields_of s.file (file_at files s.file)) ≡ false) place free.untouched;
          };
        };
        file_is = refl;
      }

-- record r of a file is the one of its table and entry
own_record : (files : List (List ℕ)) (r : RecordId) → IsRecord files r → record_id r.file (file_at files r.file) r.table r.entry ≡ r
own_record files r is =
    ap (λ (s : ℕ). record { file = r.file; table = r.table; entry = r.entry; section = s }) (sym is.section_is)

of_file : (files : List (List ℕ)) (file : ℕ) (By : RecordId → Type 0) (r : RecordId) → IsRecord files r → r.file ≡ file → By r →
    OfFile files file By
of_file files file By r there same by =
    let own : OfFile files r.file By =
    (r.table, there.table_in, (r.entry, there.within, subst By (sym (own_record files r there)) by)) in
    subst (λ (f : ℕ). OfFile files f By) same own

-- the number of the section that a record is about
number_is : (files : List (List ℕ)) (kind : Kind) (s : SectionId) (at number : ℕ) (r : RecordId) → IsRecordAt files kind s at r →
    slice_get (text_sections files) number ≡ Some s → text_number files r.file r.section ≡ Some number
number_is files kind s at number r here place =
    ap (λ (f : ℕ). text_number files f r.section) here.file_is ∙ ap (λ (i : ℕ). text_number files s.file i) here.section_is
    ∙ text_number_at files number s place

asks : (files : List (List ℕ)) (pair : TextPair) (is : IsRecognised files pair) → IsAskedBy files is.is.asked.record_id pair
asks files pair is =
    let r = is.is.asked.record_id in
    let here = is.is.asked.here in
    let s = is.place in
    let inside : IsAskedIn files s.file r pair = record {
      kind_is = here.kind_is;
      head_is = here.offset_is;
      distance = is.is.asked.distance;
      words = subst (λ (i : ℕ). ArePairWords (section_bytes (file_at files s.file) i) pair.head pair.tail) (sym here.section_is)
          is.is.words;
    } in
    let own = subst (λ (f : ℕ). IsAskedIn files f r pair) (sym here.file_is) inside in
    record {
      section_is = number_is files PcrelOpt s pair.head pair.section r here is.place_is;
      kind_is = own.kind_is;
      head_is = own.head_is;
      distance = own.distance;
      words = own.words;
    }

loads_it : (files : List (List ℕ)) (pair : TextPair) (is : IsRecognised files pair) → IsLoadBy files is.is.load.record_id (head_of pair)
loads_it files pair is =
    let r = is.is.load.record_id in
    let here = is.is.load.here in
    let s = is.place in
    let inside : IsLoadedIn files s.file r (head_of pair) =
    record { kind_is = here.kind_is; offset_is = here.offset_is; address = is.is.load.address } in
    let own = subst (λ (f : ℕ). IsLoadedIn files f r (head_of pair)) (sym here.file_is) inside in
    record {
      section_is = number_is files GotPcrel34 s pair.head pair.section r here is.place_is;
      kind_is = own.kind_is;
      offset_is = own.offset_is;
      address = own.address;
    }

-- what is recognised is asked for
pub asked_for : (files : List (List ℕ)) (file : ℕ) (pair : TextPair) → IsRecognisedIn files file pair → AskedOf files file pair
asked_for files file pair found =
    let here = found.is.is.asked.here in
    of_file files file (λ r. IsAskedBy files r pair) found.is.is.asked.record_id here.record_in (here.file_is ∙ found.file_is)
    (asks files pair found.is)

-- is loaded
pub loaded_at : (files : List (List ℕ)) (file : ℕ) (pair : TextPair) → IsRecognisedIn files file pair →
    LoadedOf files file (head_of pair)
loaded_at files file pair found =
    let here = found.is.is.load.here in
    of_file files file (λ r. IsLoadBy files r (head_of pair)) found.is.is.load.record_id here.record_in (here.file_is ∙ found.file_is)
    (loads_it files pair found.is)

-- and is free
pub free_of : (files : List (List ℕ)) (pair : TextPair) → IsRecognised files pair → IsFree files pair
free_of files pair is = record { place = is.place; place_is = is.place_is; untouched = is.is.untouched }
