-- Fields of text that are filled wherever text lies hold their values, where they do in one text: their values don't depend on it.
use Rattle.std.proofs.Common.{ℕ, ℤ, pos, ◌≡◌, ◌≢◌, ◌<◌, ◌≤◌, ◌+◌, ◌%◌, ◌^◌, Bool, true, false, not, ◌&&◌, ◌||◌, ◌==◌, List, [], length, Option, None, Some, ap, sym, ◌∙◌, subst, refl, arith, if◌then◌else◌}
use Rattle.std.specs.Prelude.{◌↔◌, is_some, unwrap_or, slice_index}
use Rattle.std.specs.List.{list_any, slice_range}
use Rattle.std.specs.Option.{option_map}
use Rattle.std.proofs.lemmas.Bool.{and_parts}
use Rattle.std.proofs.lemmas.Bool.Decides.{nat_tests}
use Rattle.std.proofs.lemmas.Int.{ints}
use Rattle.elf64_records.specs.First.{first_in, when}
use Rattle.elf64_records.specs.FileHeader.{e_shnum}
use Rattle.elf64_records.specs.Records.{rela_of, record_count}
use Rattle.elf64_records.specs.Sections.{sh_size, sh_offset, has_bytes, section_bytes}
use Rattle.elf64_records.specs.Symbols.{st_value, symbol_count}
use Rattle.elf64_records.specs.laws.First.{both_none, walk_none}
use Rattle.elf64_records.specs.laws.Whole.{symbol_in_range}
use Rattle.object_set.specs.declared.places.RecordId.{RecordId}
use Rattle.object_set.specs.declared.places.SectionId.{SectionId}
use Rattle.object_set.specs.declared.refusal.Refusal.{Refusal}
use Rattle.object_set.specs.declared.refusal.Refusal.TheVariants.{Overflow}
use Rattle.object_set.specs.declared.sort.Sort.{Sort}
use Rattle.object_set.specs.declared.sort.Sort.TheVariants.{Text, Zeroed, Toc, Writable, ReadOnly, Dropped}
use Rattle.object_set.specs.Files.{file_at}
use Rattle.object_set.specs.Refusals.{set_refusal}
use Rattle.object_set.specs.Sections.{sort_of, is_text_sort, is_text, is_kept_sort}
use Rattle.object_set.specs.Symbols.{name_of, is_local, is_weak, section_index, is_absolute, is_toc_base, has_section, index_of, lies_in_kept}
use Rattle.object_set.specs.Walks.{IsRecord, all_items, record_walk, record_id}
use Rattle.object_set.specs.laws.Fit.{file_fit, symbol_fit}
use Rattle.reloc_fields.specs.declared.kind.Kind.{Kind}
use Rattle.reloc_fields.specs.declared.kind.Kind.TheVariants as relocation
use Rattle.reloc_fields.specs.Table.{Check, line_of, value, Passes}
use Rattle.reloc_fields.specs.Table.Check.{any}
use Rattle.reloc_fields.specs.Table.Formula.{from_place}
use Rattle.symbol_table.specs.declared.candidates.Resolution.{Resolution}
use Rattle.symbol_table.specs.declared.candidates.Resolution.TheVariants as resolution
use Rattle.symbol_table.specs.declared.sites.Stand.{Stand}
use Rattle.symbol_table.specs.declared.sites.Stand.TheVariants.{InText}
use Rattle.symbol_table.specs.declared.target.Target.{Target}
use Rattle.symbol_table.specs.declared.target.Target.TheVariants as target
use Rattle.symbol_table.specs.Candidates.{stands_for}
use Rattle.symbol_table.specs.Fields.{kind_numbered}
use Rattle.symbol_table.specs.Prologue.{word_in}
use Rattle.symbol_table.specs.Records.{records_refusal, site_of, is_slot_kind, looks_at_symbol, is_code, may_branch}
use Rattle.symbol_table.specs.Sites.{rule_of, admits}
use Rattle.symbol_table.specs.Targets.{IsPlaced, plus_addend, section_target, index_target, own_target, named_target, external_target, target_of}
use Rattle.symbol_table.specs.Text.{text_index, text_number}
use Rattle.symbol_table.specs.laws.Definitions.{definition_placed}
use Rattle.symbol_table.specs.laws.RecordWalk.{first_of_records, first_of_file, first_of_table}
use Rattle.symbol_table.specs.laws.Sections.{record_about, bytes_whole, text_about, text_stored}
use Rattle.call_sites.specs.Sites.{linkage_of}
use Rattle.toc_groups.specs.Data.{base_of, section_address, slot_address as slot_in_data}
use Rattle.toc_groups.specs.Parts.{Part, Takes}
use Rattle.toc_groups.specs.Plans.{LaidData, IsPlan}
use Rattle.toc_groups.specs.Values.{passes, address_of, symbol_address, field_address, record_value, kind_overflow, data_overflow_at}
use Rattle.toc_groups.proofs.Apart.{parts_apart}
use Rattle.toc_groups.proofs.Bounds.{IsWholeFile, whole_file, section_small}
use Rattle.toc_rewrite.specs.Folds.{is_orderly, slot_address, slot_records, slot_at}
use Rattle.toc_rewrite.specs.Laid.{LaidFiles}
use Rattle.toc_rewrite.specs.Records.{kind_of, word_at, goes, target_by, record_target, record_number}
use Rattle.toc_rewrite.specs.Uses.{is_toc_load, folds_by, folds_slot, is_folded_load}
use Rattle.toc_rewrite.specs.Words.{suits, only_loads, is_small}
use Rattle.toc_rewrite.specs.laws.Slots.{foldable_parts}
use Rattle.toc_rewrite.proofs.SoundRecords.{sound_field}
use Rattle.pcrel_rewrite.specs.declared.text_pairs.TextPair.{TextPair}
use Rattle.image_writer.specs.Fields.{plain_kind, text_kind}
use Rattle.image_writer.specs.Records.{overflow_by, text_overflow_at}
use Rattle.image_writer.specs.Rewriting.{laid_by, rewriting_of}
use Rattle.image_writer.specs.TocLoads.{slot_distance, named_distance, toc_record}
use Rattle.image_writer.proofs.Naming.{found_is, none_found}
use Rattle.image_writer.proofs.Slots.{laid_is, word_suits}
use Rattle.plain_machine.specs.declared.place.TextPlace.{TextPlace}
use Rattle.plain_run.specs.declared.role.FieldRole.{FieldRole}
use Rattle.plain_run.specs.declared.role.FieldRole.TheVariants as role
use Rattle.plain_run.specs.Places.{laid, has_foldable, names_foldable, role_at, fixed_value}
use Rattle.plain_run.specs.Roles.{is_place, is_lis, plain_role, role_of}
use Rattle.plain_run.specs.Standing.{word_at as run_word}
use Rattle.plain_run.specs.inside.Text.{IsFieldAt, FixedFieldsHold}
use Rattle.link_engine.specs.Link.{overflow_at, overflow}

-- ---- a symbol goes to a place in text with each addend, or with none

section_place : (files : List (List ℕ)) (file at to i : ℕ) (sort : Sort) →
    is_place (section_target files file at i sort) ≡ is_place (section_target files file to i sort)
section_place files file at to i Text = refl
section_place files file at to i Zeroed = refl
section_place files file at to i Toc = refl
section_place files file at to i Writable = refl
section_place files file at to i ReadOnly = refl
section_place files file at to i Dropped = refl

index_place : (files : List (List ℕ)) (file at to : ℕ) (o : Option ℕ) →
    is_place (index_target files file at o) ≡ is_place (index_target files file to o)
index_place files file at to None = refl
index_place files file at to (Some i) = section_place files file at to i (sort_of (file_at files file) i)

own_place : (files : List (List ℕ)) (file at to : ℕ) (o : Option ℕ) (absolute : Bool) →
    is_place (if absolute then Some (target.Number at) else index_target files file at o)
    ≡ is_place (if absolute then Some (target.Number to) else index_target files file to o)
own_place files file at to o true = refl
own_place files file at to o false = index_place files file at to o

named_place : (files : List (List ℕ)) (name : List ℕ) (weak : Bool) (stands : Resolution) (a b : ℤ) →
    is_place (named_target files name weak stands a) ≡ is_place (named_target files name weak stands b)
named_place files name weak (resolution.Definition s) a b =
    let f = file_at files s.file in
    own_place files s.file (plus_addend (st_value f s.symbol) a) (plus_addend (st_value f s.symbol) b) (section_index f s.symbol)
    (is_absolute f s.symbol)
named_place files name weak (resolution.Common common) a b = refl
named_place files name true resolution.Undefined a b = refl
named_place files name false resolution.Undefined a b = refl

target_place : (files : List (List ℕ)) (file j : ℕ) (a b : ℤ) (none base local : Bool) →
    is_place (if none then Some (target.Number (plus_addend 0 a))
    else (if base then Some (target.TocBase file a)
    else (if local then own_target files file j a
    else named_target files (name_of (file_at files file) j) (is_weak (file_at files file) j)
    (stands_for files (name_of (file_at files file) j)) a)))
    ≡ is_place (if none then Some (target.Number (plus_addend 0 b))
    else (if base then Some (target.TocBase file b)
    else (if local then own_target files file j b
    else named_target files (name_of (file_at files file) j) (is_weak (file_at files file) j)
    (stands_for files (name_of (file_at files file) j)) b)))
target_place files file j a b true base local = refl
target_place files file j a b false true local = refl
target_place files file j a b false false true =
    let f = file_at files file in
    own_place files file (plus_addend (st_value f j) a) (plus_addend (st_value f j) b) (section_index f j) (is_absolute f j)
target_place files file j a b false false false =
    let f = file_at files file in
    named_place files (name_of f j) (is_weak f j) (stands_for files (name_of f j)) a b

goes_place : (files : List (List ℕ)) (file j : ℕ) (a b : ℤ) → is_place (target_of files file j a) ≡ is_place (target_of files file j b)
goes_place files file j a b =
    let f = file_at files file in
    target_place files file j a b (j == 0) (is_toc_base f j) (is_local f j)

-- ---- and a number or a place in data has one address

address_fixed : (files : List (List ℕ)) (span : ℕ) (text other : List ℕ) (t : Target) → is_place (Some t) ≡ false →
    address_of files span text t ≡ address_of files span other t
address_fixed files span text other (target.Data piece addend) none = refl
address_fixed files span text other (target.Code section offset) none = cc
address_fixed files span text other (target.Number n) none = refl
address_fixed files span text other (target.TocBase file addend) none = refl
address_fixed files span text other (target.WeakNone addend) none = refl

option_fixed : (files : List (List ℕ)) (span : ℕ) (text other : List ℕ) (o : Option Target) → is_place o ≡ false →
    unwrap_or (option_map (address_of files span text) o) 0 ≡ unwrap_or (option_map (address_of files span other) o) 0
option_fixed files span text other None none = refl
option_fixed files span text other (Some t) none = address_fixed files span text other t none

symbol_fixed : (files : List (List ℕ)) (span : ℕ) (text other : List ℕ) (file j : ℕ) (a : ℤ) →
    is_place (target_of files file j a) ≡ false → symbol_address files span text file j ≡ symbol_address files span other file j
unfolding symbol_address
symbol_fixed files span text other file j a none =
    option_fixed files span text other (target_of files file j (pos 0)) (goes_place files file j (pos 0) a ∙ none)

-- ---- a conditional branch stays in its section: a symbol there lies in the section with no addend too

-- a symbol of a text section, which lies in it
record LiesIn (section : ℕ) (o : Option Target) : Type 0 where
  offset : ℕ
  is : o ≡ Some (target.Code section offset)
  low : offset ≤ 0x10000000

size_case : (b : List ℕ) (i : ℕ) (has : Bool) → IsWholeFile b → i < e_shnum b → has_bytes b i ≡ has →
    length (section_bytes b i) ≡ sh_size b i → sh_size b i ≤ 0x10000000
size_case b i true whole within is stored = section_small b i whole within is
size_case b i false whole within is stored =
    let empty : section_bytes b i ≡ [] =
    ap (λ (t : Bool). if t then slice_range b (sh_offset b i) (sh_offset b i + sh_size b i) else []) is in
    omega (arith, stored, ap length empty)

section_size : (files : List (List ℕ)) (file i : ℕ) → set_refusal files ≡ None → file < length files → i < e_shnum (file_at files file) →
    is_text (file_at files file) i ≡ true → sh_size (file_at files file) i ≤ 0x10000000
section_size files file i whole file_in within text =
    let b = file_at files file in
    size_case b i (has_bytes b i) (whole_file files file whole file_in) within refl
    (bytes_whole files file i whole file_in (text_about b i within text) (text_stored b i text))

section_code : (files : List (List ℕ)) (file at i section offset : ℕ) (sort : Sort) →
    section_target files file at i sort ≡ Some (target.Code section offset) → (sort ≡ Text) × (text_index files file i ≡ section)
section_code files file at i section offset Text is = (refl, cc)
section_code files file at i section offset Zeroed is = cc
section_code files file at i section offset Toc is = cc
section_code files file at i section offset Writable is = cc
section_code files file at i section offset ReadOnly is = cc
section_code files file at i section offset Dropped is = cc

module _ (files : List (List ℕ)) (whole : set_refusal files ≡ None) where
  own_lies : (file j : ℕ) (a : ℤ) (section offset : ℕ) (absolute has : Bool) → IsPlaced files file j → has_section (file_at files file) j ≡ has →
      (if absolute then Some (target.Number (plus_addend (st_value (file_at files file) j) a))
      else index_target files file (plus_addend (st_value (file_at files file) j) a) (if has then Some (index_of (file_at files file) j) else None))
      ≡ Some (target.Code section offset) →
      LiesIn section (if absolute then Some (target.Number (plus_addend (st_value (file_at files file) j) (pos 0)))
      else index_target files file (plus_addend (st_value (file_at files file) j) (pos 0))
      (if has then Some (index_of (file_at files file) j) else None))
  own_lies file j a section offset true has placed known is = cc
  own_lies file j a section offset false false placed known is = cc
  own_lies file j a section offset false true placed known is =
      let b = file_at files file in
      let i = index_of b j in
      let at = plus_addend (st_value b j) (pos 0) in
      let parts = section_code files file (plus_addend (st_value b j) a) i section offset (sort_of b i) is in
      let fit = symbol_fit file b j (file_fit files file whole placed.file_in) placed.some placed.within in
      let inside = fit.section known in
      let text : is_text b i ≡ true = ap is_text_sort parts.0 in
      let size = section_size files file i whole placed.file_in inside text in
      let kept : lies_in_kept b j ≡ true =
      ap (λ (h : Bool). h && is_kept_sort (sort_of b i)) known ∙ ap is_kept_sort parts.0 in
      let most = fit.within kept in
      record {
        offset = at;
        is = ap (section_target files file at i) parts.0 ∙ ap (λ (n : ℕ). Some (target.Code n at)) parts.1;
        low = omega (arith, size, most);
      }

  named_lies : (name : List ℕ) (weak : Bool) (stands : Resolution) (a : ℤ) (section offset : ℕ) → stands_for files name ≡ stands →
      named_target files name weak stands a ≡ Some (target.Code section offset) →
      LiesIn section (named_target files name weak stands (pos 0))
  named_lies name weak (resolution.Definition s) a section offset known is =
      let b = file_at files s.file in
      own_lies s.file s.symbol a section offset (is_absolute b s.symbol) (has_section b s.symbol) (definition_placed files name s known) refl is
  named_lies name weak (resolution.Common common) a section offset known is = cc
  named_lies name true resolution.Undefined a section offset known is = cc
  named_lies name false resolution.Undefined a section offset known is = cc

  target_lies : (file j : ℕ) (a : ℤ) (section offset : ℕ) (zeroth base local : Bool) → (j == 0) ≡ zeroth → file < length files →
      j < symbol_count (file_at files file) →
      (if zeroth then Some (target.Number (plus_addend 0 a))
      else (if base then Some (target.TocBase file a)
      else (if local then own_target files file j a
      else external_target files file j a))) ≡ Some (target.Code section offset) →
      LiesIn section (if zeroth then Some (target.Number (plus_addend 0 (pos 0)))
      else (if base then Some (target.TocBase file (pos 0))
      else (if local then own_target files file j (pos 0)
      else external_target files file j (pos 0))))
  target_lies file j a section offset true base local known file_in within is = cc
  target_lies file j a section offset false true local known file_in within is = cc
  target_lies file j a section offset false false true known file_in within is =
      let b = file_at files file in
      let some : 0 < j = grind (arith, nat_tests, known) in
      own_lies file j a section offset (is_absolute b j) (has_section b j) (record { file_in = file_in; some = some; within = within }) refl is
  target_lies file j a section offset false false false known file_in within is =
      let b = file_at files file in
      named_lies (name_of b j) (is_weak b j) (stands_for files (name_of b j)) a section offset refl is

  symbol_lies : (file j : ℕ) (a : ℤ) (section offset : ℕ) → file < length files → j < symbol_count (file_at files file) →
      target_of files file j a ≡ Some (target.Code section offset) → LiesIn section (target_of files file j (pos 0))
  symbol_lies file j a section offset file_in within is =
      let b = file_at files file in
      target_lies file j a section offset (j == 0) (is_toc_base b j) (is_local b j) refl file_in within is

  -- the address of such a symbol
  symbol_at : (span : ℕ) (text : List ℕ) (file j section : ℕ) (lies : LiesIn section (target_of files file j (pos 0))) →
      symbol_address files span text file j ≡ (slice_index text section + lies.offset) % 2 ^ 64
  unfolding symbol_address
  symbol_at span text file j section lies =
      ap (λ (o : Option Target). unwrap_or (option_map (address_of files span text) o) 0) lies.is

-- ---- the kinds of which values don't depend on text

-- a relocation of an instruction, whose value isn't a distance from its field
record IsNoDistance (kind : Kind) : Type 0 where
  text : (rule_of kind).stand ≡ InText
  goes_there : goes kind ≡ true
  anywhere : (s : ℕ) (a : ℤ) (p q toc : ℕ) → value (line_of kind).formula s a p toc ≡ value (line_of kind).formula s a q toc

-- why a field that is filled with what doesn't depend on text holds it
data Fills (kind : Kind) (t : Option Target) : Type 0 where
  Unchecked : (line_of kind).check ≡ any → Fills kind t
  Branches : kind ≡ relocation.Rel14 → Fills kind t
  Numbered : is_place t ≡ false → IsNoDistance kind → Fills kind t
  NoField : (line_of kind).width ≡ 0 → Fills kind t
  Called : is_some (linkage_of kind) ≡ true → Fills kind t

plain_fixed : (place : Bool) → (if place then role.Moving else role.Fixed) ≡ role.Fixed → place ≡ false
plain_fixed true is = cc
plain_fixed false is = refl

-- one that is a half of an address on some words is filled on others
half_fixed : (half : FieldRole) (place on : Bool) → half ≢ role.Fixed →
    (if place && on then half else (if place then role.Moving else role.Fixed)) ≡ role.Fixed → place ≡ false
half_fixed half true true other is = absurd (other is)
half_fixed half true false other is = cc
half_fixed half false on other is = refl

suited_fixed : (half : FieldRole) (suits place : Bool) → half ≢ role.Fixed →
    (if suits then half else (if place then role.Moving else role.Fixed)) ≡ role.Fixed → place ≡ false
suited_fixed half true place other is = absurd (other is)
suited_fixed half false place other is = plain_fixed place is

no_distance : (kind : Kind) → (rule_of kind).stand ≡ InText → goes kind ≡ true →
    ((s : ℕ) (a : ℤ) (p q toc : ℕ) → value (line_of kind).formula s a p toc ≡ value (line_of kind).formula s a q toc) → IsNoDistance kind
no_distance kind text there anywhere = record { text = text; goes_there = there; anywhere = anywhere }

how_fixed : (kind : Kind) (word : ℕ) (t : Option Target) (named : Bool) → role_of kind word t named ≡ role.Fixed → Fills kind t
how_fixed relocation.Addr32 word t named is = cc
how_fixed relocation.Rel32 word t named is = cc
how_fixed relocation.Addr64 word t named is = Unchecked refl
how_fixed relocation.Rel64 word t named is = Unchecked refl
how_fixed relocation.Toc word t named is = Unchecked refl
how_fixed relocation.Pcrel34 word t named is = cc
how_fixed relocation.GotPcrel34 word t named is = cc
how_fixed relocation.Rel14 word t named is = Branches refl
how_fixed relocation.Rel16Lo word t named is = Unchecked refl
how_fixed relocation.Rel16Ha word t named is = cc
how_fixed relocation.Addr16Lo word t named is = Unchecked refl
how_fixed relocation.Toc16Lo word t named is = Unchecked refl
how_fixed relocation.None word t named is = NoField refl
how_fixed relocation.Tocsave word t named is = NoField refl
how_fixed relocation.PcrelOpt word t named is = NoField refl
how_fixed relocation.Rel24 word t named is = Called refl
how_fixed relocation.Rel24Notoc word t named is = Called refl
how_fixed relocation.Addr16Ha word t named is =
    Numbered (half_fixed role.PlaceAdjusted (is_place t) (is_lis word) (λ same. cc) is)
    (no_distance relocation.Addr16Ha refl refl (λ s a p q toc. refl))
how_fixed relocation.Addr16Hi word t named is =
    Numbered (half_fixed role.PlaceHigh (is_place t) (is_lis word) (λ same. cc) is)
    (no_distance relocation.Addr16Hi refl refl (λ s a p q toc. refl))
how_fixed relocation.Toc16Ha word t named is =
    Numbered (suited_fixed role.TocHigh (suits relocation.Toc16Ha word) (is_place t) (λ same. cc) is)
    (no_distance relocation.Toc16Ha refl refl (λ s a p q toc. refl))
how_fixed relocation.Toc16LoDs word t named is =
    Numbered (suited_fixed role.TocLow (suits relocation.Toc16LoDs word) (is_place t) (λ same. cc) is)
    (no_distance relocation.Toc16LoDs refl refl (λ s a p q toc. refl))
how_fixed relocation.Toc16Ds word t named is =
    Numbered (suited_fixed role.TocSlot (is_toc_load word && named) (is_place t) (λ same. cc) is)
    (no_distance relocation.Toc16Ds refl refl (λ s a p q toc. refl))
how_fixed relocation.Addr16 word t named is = Numbered (plain_fixed (is_place t) is) (no_distance relocation.Addr16 refl refl (λ s a p q toc. refl))
how_fixed relocation.Toc16 word t named is = Numbered (plain_fixed (is_place t) is) (no_distance relocation.Toc16 refl refl (λ s a p q toc. refl))
how_fixed relocation.Toc16Hi word t named is = Numbered (plain_fixed (is_place t) is) (no_distance relocation.Toc16Hi refl refl (λ s a p q toc. refl))
how_fixed relocation.Addr16Ds word t named is = Numbered (plain_fixed (is_place t) is) (no_distance relocation.Addr16Ds refl refl (λ s a p q toc. refl))
how_fixed relocation.Addr16LoDs word t named is =
    Numbered (plain_fixed (is_place t) is) (no_distance relocation.Addr16LoDs refl refl (λ s a p q toc. refl))

-- the distance of a branch in its section
branch_distance : (at s p : ℕ) (a : ℤ) (toc : ℕ) → at < 2 ^ 32 → s ≤ 0x10000000 → p ≤ 0x10000000 →
    value from_place ((at + s) % 2 ^ 64) a ((at + p) % 2 ^ 64) toc ≡ value from_place ((0 + s) % 2 ^ 64) a ((0 + p) % 2 ^ 64) toc
branch_distance at s p a toc low near too =
    let one : (at + s) % 2 ^ 64 ≡ at + s = omega (arith, low, near) in
    let other : (at + p) % 2 ^ 64 ≡ at + p = omega (arith, low, too) in
    let first : (0 + s) % 2 ^ 64 ≡ s = omega (arith, near) in
    let last : (0 + p) % 2 ^ 64 ≡ p = omega (arith, too) in
    omega (arith, ints, one, other, first, last)

-- ---- what the field of a record holds

module _ (files : List (List ℕ)) (span : ℕ) (text : List ℕ) (r : RecordId) (kind : Kind) where
  -- where it goes to no place, its value is one
  value_fixed : is_place (record_target files r) ≡ false → kind_of files r ≡ Some kind → IsNoDistance kind →
      record_value files span text r kind ≡ record_value files span [] r kind
  unfolding record_value
  value_fixed no_place known is =
      let facts = rela_of (file_at files r.file) r.table r.entry in
      let there : record_target files r ≡ target_of files r.file facts.symbol facts.addend =
      ap (target_by files r) known
      ∙ ap (λ (b : Bool). if b then target_of files r.file facts.symbol facts.addend else None) is.goes_there in
      let symbol = symbol_fixed files span text [] r.file facts.symbol facts.addend (sym (ap is_place there) ∙ no_place) in
      let f = (line_of kind).formula in
      let base = base_of files span r.file in
      let source : ℕ → ℕ = λ s. if is_slot_kind kind then unwrap_or (slot_in_data files span r.file facts.symbol) 0
      else (if looks_at_symbol kind then s else 0) in
      ap (λ (s : ℕ). value f (source s) facts.addend (field_address files span text r) base) symbol
      ∙ is.anywhere (source (symbol_address files span [] r.file facts.symbol)) facts.addend (field_address files span text r)
      (field_address files span [] r) base

-- ---- the target of a conditional branch

record BranchesTo (files : List (List ℕ)) (own : Option ℕ) (t : Target) : Type 0 where
  section : ℕ
  offset : ℕ
  is : t ≡ target.Code section offset
  own_is : own ≡ Some section

branch_target : (files : List (List ℕ)) (own : Option ℕ) (t : Target) → may_branch files own t ≡ true → BranchesTo files own t
branch_target files None t may = cc
branch_target files (Some own) (target.Code section offset) may =
    let same : section ≡ own = grind (arith, nat_tests, (and_parts (section == own) (is_code files section offset) may).0) in
    record { section = section; offset = offset; is = refl; own_is = ap Some (sym same) }
branch_target files (Some own) (target.Data piece addend) may = cc
branch_target files (Some own) (target.Number n) may = cc
branch_target files (Some own) (target.TocBase file addend) may = cc
branch_target files (Some own) (target.WeakNone addend) may = cc

own_number : (text : Bool) (k section : ℕ) → (if text then Some k else None) ≡ Some section → (text ≡ true) × (k ≡ section)
own_number true k section is = (refl, cc)
own_number false k section is = cc

module _ (files : List (List ℕ)) (span : ℕ) (r : RecordId) (whole : set_refusal files ≡ None) (none : records_refusal files ≡ None)
    (here : IsRecord files r) where
  field_at_text : (text : List ℕ) (section : ℕ) → is_text (file_at files r.file) r.section ≡ true →
      text_index files r.file r.section ≡ section →
      field_address files span text r ≡ (slice_index text section + (rela_of (file_at files r.file) r.table r.entry).offset) % 2 ^ 64
  field_at_text text section is_there index =
      let b = file_at files r.file in
      let offset = (rela_of b r.table r.entry).offset in
      ap (λ (t : Bool). ((if t then slice_index text (text_index files r.file r.section)
      else section_address files span r.file b r.section) + offset) % 2 ^ 64) is_there
      ∙ ap (λ (k : ℕ). (slice_index text k + offset) % 2 ^ 64) index

  -- its distance from the field doesn't depend on where the section lies
  branch_fixed : (text : List ℕ) → ((k : ℕ) → slice_index text k < 2 ^ 32) → kind_of files r ≡ Some relocation.Rel14 →
      record_value files span text r relocation.Rel14 ≡ record_value files span [] r relocation.Rel14
  unfolding record_value
  branch_fixed text low known =
      let b = file_at files r.file in
      let facts = rela_of b r.table r.entry in
      let sound = sound_field files r none here relocation.Rel14 known (omega arith) in
      let goes_there = sound.target refl in
      let to = branch_target files (text_number files r.file r.section) goes_there.0 goes_there.1.may in
      let section = to.section in
      let own = own_number (is_text b r.section) (text_index files r.file r.section) section to.own_is in
      let about = record_about files r whole here in
      let size = section_size files r.file r.section whole here.file_in about.within own.0 in
      let inside = sound.within in
      let known_symbol = symbol_in_range b r.table r.entry (whole_file files r.file whole here.file_in).fault here.table_in here.within in
      let lies = symbol_lies files whole r.file facts.symbol facts.addend section to.offset here.file_in known_symbol
      (goes_there.1.is ∙ ap Some to.is) in
      let base = base_of files span r.file in
      let of : ℕ → ℕ → ℤ = λ s p. value from_place s facts.addend p base in
      ap (λ (s : ℕ). of s (field_address files span text r)) (symbol_at files whole span text r.file facts.symbol section lies)
      ∙ ap (of ((slice_index text section + lies.offset) % 2 ^ 64)) (field_at_text text section own.0 own.1)
      ∙ branch_distance (slice_index text section) lies.offset facts.offset facts.addend base (low section) lies.low (omega (arith, size, inside))
      ∙ sym (ap (of ((slice_index [] section + lies.offset) % 2 ^ 64)) (field_at_text [] section own.0 own.1))
      ∙ sym (ap (λ (s : ℕ). of s (field_address files span [] r)) (symbol_at files whole span [] r.file facts.symbol section lies))

-- ---- a load that is left out has a role of its own

told_by : (b : Bool) (o : Option ℤ) (distance : ℤ) → (if b then o else None) ≡ Some distance → o ≡ Some distance
told_by true o distance is = is
told_by false o distance is = cc

mapped_by : (f : RecordId → ℤ) (o : Option RecordId) (distance : ℤ) → option_map f o ≡ Some distance → (s : RecordId) × (o ≡ Some s)
mapped_by f None distance is = cc
mapped_by f (Some s) distance is = (s, refl)

-- what is left out: a load of a slot that a record names
record FoldsSlot (kind : Kind) (word : ℕ) (slot : Option ℤ) : Type 0 where
  distance : ℤ
  is : slot ≡ Some distance
  folds : folds_by kind word distance ≡ true

folds_parts : (kind : Kind) (word : ℕ) (slot : Option ℤ) → folds_slot kind word slot ≡ true → FoldsSlot kind word slot
folds_parts kind word None folds = cc
folds_parts kind word (Some distance) folds = record { distance = distance; is = refl; folds = folds }

no_role : (half : FieldRole) (on : Bool) (other : FieldRole) → on ≡ true → half ≢ role.Fixed → (if on then half else other) ≡ role.Fixed → ⊥
no_role half true other is differs same = differs same
no_role half false other is differs same = cc

module _ (files : List (List ℕ)) (plan : LaidData) (is : IsPlan files plan.span plan) (whole : set_refusal files ≡ None)
    (none : records_refusal files ≡ None) (r : RecordId) (kind : Kind) (here : IsRecord files r) (known : kind_of files r ≡ Some kind) where
  apart : (a : ℕ) (p q : Part) → Takes files plan.span p a → Takes files plan.span q a → p ≡ q
  apart a p q first second = parts_apart files plan.span p q a whole first second

  abbrev by_span : LaidFiles
  by_span = laid_by files plan.span

  named_case : (number : Option ℕ) (s : RecordId) (some : Bool) → has_foldable files plan r.file number ≡ some →
      slot_at by_span (slot_records by_span) r.file number ≡ Some s → some ≡ true
  named_case None s some has found = cc
  named_case (Some number) s true has found = refl
  named_case (Some number) s false has found =
      let never : list_any (λ (t : RecordId). t.file == r.file && slot_address by_span t == number) (slot_records by_span) ≡ false =
      ap (λ (l : LaidFiles). list_any (λ (t : RecordId). t.file == r.file && slot_address l t == number) (slot_records l))
      (sym (laid_is files plan.span plan is)) ∙ has in
      let nothing = none_found files plan.span plan is whole none apart r.file number never in
      cc

  folded_case : (word : ℕ) (distance : ℤ) (s : RecordId) → word ≡ word_at files r → folds_by kind word distance ≡ true →
      slot_at by_span (slot_records by_span) r.file (record_number by_span r) ≡ Some s →
      role_of kind word (record_target files r) (names_foldable files plan r) ≡ role.Fixed → ⊥
  folded_case word distance s same folds found fixed =
      let one = found_is files plan.span plan is whole none apart s r.file (record_number by_span r) found in
      let orderly : is_orderly files r.file ≡ true = ap (is_orderly files) (sym one.file_is) ∙ (foldable_parts by_span s one.folds).orderly in
      let named : names_foldable files plan r ≡ true =
      named_case (record_number (laid files plan) r) s (names_foldable files plan r) refl
      (ap (λ (l : LaidFiles). slot_at by_span (slot_records by_span) r.file (record_number l r)) (laid_is files plan.span plan is) ∙ found) in
      elim kind as (λ k. kind_of files r ≡ Some k → folds_by k word distance ≡ true →
      role_of k word (record_target files r) (names_foldable files plan r) ≡ role.Fixed → ⊥) [
        | relocation.Toc16LoDs ↦ λ known folds fixed.
            no_role role.TocLow (suits relocation.Toc16LoDs word) (plain_role (record_target files r))
            (ap (suits relocation.Toc16LoDs) same ∙ word_suits files r relocation.Toc16LoDs here known orderly) (λ other. cc) fixed
        | relocation.Toc16Ds ↦ λ known folds fixed.
            no_role role.TocSlot (is_toc_load word && names_foldable files plan r) (plain_role (record_target files r))
            (ap (λ (b : Bool). b && names_foldable files plan r) (and_parts (is_toc_load word) (is_small distance) folds).0 ∙ named)
            (λ other. cc) fixed
        | _ ↦ λ known folds fixed. cc
      ] known folds fixed

  not_folded : (text : List ℕ) (word : ℕ) (b : Bool) → word ≡ word_at files r →
      role_of kind word (record_target files r) (names_foldable files plan r) ≡ role.Fixed →
      is_folded_load (toc_record files plan.span text (slot_records by_span) r kind) ≡ b → b ≡ false
  unfolding toc_record
  not_folded text word false same fixed folds = refl
  not_folded text word true same fixed folds =
      let slot = (toc_record files plan.span text (slot_records by_span) r kind).slot in
      let parts = folds_parts kind (word_at files r) slot folds in
      let told = told_by (only_loads kind (word_at files r)) (named_distance files plan.span text (slot_records by_span) r) parts.distance
      parts.is in
      let found = mapped_by (slot_distance files plan.span text r.file)
      (slot_at by_span (slot_records by_span) r.file (record_number by_span r)) parts.distance told in
      absurd (folded_case word parts.distance found.0 same
      (ap (λ (w : ℕ). folds_by kind w parts.distance) same ∙ parts.folds) found.1 fixed)

  passes_case : (b : Bool) (q : Refusal) → when (not b) q ≡ None → b ≡ true
  passes_case true q passed = refl
  passes_case false q passed = cc

  -- a field of which no overflow is told holds its value, unless its load is left out
  told_case : (text : List ℕ) (pairs : List TextPair) (folded : Bool) → text_kind files r ≡ Some kind →
      is_folded_load (toc_record files plan.span text (slot_records by_span) r kind) ≡ folded → folded ≡ false →
      text_overflow_at files plan.span text (rewriting_of files plan.span pairs) r ≡ None →
      passes (line_of kind).check (record_value files plan.span text r kind) ≡ true
  unfolding text_overflow_at
  told_case text pairs true filled folds stays passed = cc
  told_case text pairs false filled folds stays passed =
      let value = record_value files plan.span text r kind in
      passes_case (passes (line_of kind).check value) (Overflow (site_of (file_at files r.file) r) value)
      (ap (λ (b : Bool). if b then None else kind_overflow files plan.span text r (Some kind)) (sym folds)
      ∙ ap (overflow_by files plan.span text (rewriting_of files plan.span pairs) r) (sym filled) ∙ passed)

kind_case : (kind : Kind) (b : Bool) → is_some (linkage_of kind) ≡ false → ((line_of kind).width == 0) ≡ b → 0 < (line_of kind).width →
    (if b || is_some (linkage_of kind) then None else Some kind) ≡ Some kind
kind_case kind true call is fills = absurd (let zero : (line_of kind).width ≡ 0 = grind (arith, nat_tests, is) in omega (arith, zero))
kind_case kind false call is fills = ap (λ (b : Bool). if b then None else Some kind) call

-- ---- all of them

module _ (files : List (List ℕ)) (plan : LaidData) (is : IsPlan files plan.span plan) (whole : set_refusal files ≡ None)
    (none : records_refusal files ≡ None) (text : List ℕ) (pairs : List TextPair)
    (fits : overflow files plan.span text (rewriting_of files plan.span pairs) ≡ None) (low : (k : ℕ) → slice_index text k < 2 ^ 32)
    (table : (check : Check) (x : ℤ) → (passes check x ≡ true) ↔ Passes check x) where
  none_at : (at : RecordId → Option Refusal) (r : RecordId) → first_in at (all_items record_walk files) ≡ None → IsRecord files r →
      at r ≡ None
  none_at at r all here =
      let b = file_at files r.file in
      let own : record_id r.file b r.table r.entry ≡ r =
      ap (λ (s : ℕ). record { file = r.file; table = r.table; entry = r.entry; section = s }) (sym here.section_is) in
      let file = here.file_in in
      let table_in = here.table_in in
      let entry = here.within in
      let in_file = walk_none (first_of_file files at) 0 (length files) r.file (sym (first_of_records files at) ∙ all) (omega arith)
      (omega (arith, file)) in
      let in_table = walk_none (first_of_table files at r.file) 0 (e_shnum b) r.table in_file (omega arith) (omega (arith, table_in)) in
      let in_entry = walk_none (λ k. at (record_id r.file b r.table k)) 0 (record_count b r.table) r.entry in_table (omega arith)
      (omega (arith, entry)) in
      sym (ap at own) ∙ in_entry

  -- it does so in this text, and with it wherever text lies
  holds_as : (p : TextPlace) (r : RecordId) (kind : Kind) → IsFieldAt files p r kind → role_at files plan p r kind ≡ role.Fixed →
      (rule_of kind).stand ≡ InText →
      record_value files plan.span text r kind ≡ record_value files plan.span [] r kind →
      Passes (line_of kind).check (fixed_value files plan r kind)
  unfolding overflow_at text_kind
  holds_as p r kind at fixed stands same =
      let b = file_at files r.file in
      let here = at.there in
      let sound = sound_field files r none here kind at.kind_is at.fills in
      let in_text : is_text b r.section ≡ true =
      ap (λ (s : Stand). admits s (sort_of b r.section)) (sym stands) ∙ sound.stands in
      let filled : text_kind files r ≡ Some kind =
      ap (λ (t : Bool). if t then plain_kind (kind_numbered (rela_of b r.table r.entry).kind) else None) in_text
      ∙ ap plain_kind at.kind_is ∙ kind_case kind ((line_of kind).width == 0) at.no_call refl at.fills in
      let word : run_word files p ≡ word_at files r =
      ap (λ (s : SectionId). word_in (file_at files s.file) s.section p.offset) at.section_is
      ∙ ap (word_in b r.section) (sym at.offset_is) in
      let record_fits = both_none (data_overflow_at files plan.span text r)
      (text_overflow_at files plan.span text (rewriting_of files plan.span pairs) r)
      (none_at (overflow_at files plan.span text (rewriting_of files plan.span pairs)) r fits here) in
      let stays = not_folded files plan is whole none r kind here at.kind_is text (run_word files p)
      (is_folded_load (toc_record files plan.span text (slot_records (laid_by files plan.span)) r kind)) word fixed refl in
      let passed = told_case files plan is whole none r kind here at.kind_is text pairs
      (is_folded_load (toc_record files plan.span text (slot_records (laid_by files plan.span)) r kind)) filled refl stays record_fits.1 in
      (table (line_of kind).check (fixed_value files plan r kind)).0 (ap (passes (line_of kind).check) (sym same) ∙ passed)

  holds_by : (p : TextPlace) (r : RecordId) (kind : Kind) → IsFieldAt files p r kind → role_at files plan p r kind ≡ role.Fixed →
      Fills kind (record_target files r) → Passes (line_of kind).check (fixed_value files plan r kind)
  holds_by p r kind at fixed (Unchecked any_value) =
      subst (λ (c : Check). Passes c (fixed_value files plan r kind)) (sym any_value) tt
  holds_by p r kind at fixed (Branches same) =
      let known : kind_of files r ≡ Some relocation.Rel14 = at.kind_is ∙ ap Some same in
      holds_as p r kind at fixed (ap (λ (k : Kind). (rule_of k).stand) same)
      (subst (λ (k : Kind). record_value files plan.span text r k ≡ record_value files plan.span [] r k) (sym same)
      (branch_fixed files plan.span r whole none at.there text low known))
  holds_by p r kind at fixed (Numbered no_place far) =
      holds_as p r kind at fixed far.text (value_fixed files plan.span text r kind no_place at.kind_is far)
  holds_by p r kind at fixed (NoField zero) = absurd (let some = at.fills in omega (arith, zero, some))
  holds_by p r kind at fixed (Called call) = let never = at.no_call in cc

  pub fixed_hold : FixedFieldsHold files plan
  fixed_hold p r kind at fixed =
      holds_by p r kind at fixed (how_fixed kind (run_word files p) (record_target files r) (names_foldable files plan r) fixed)
