-- What data holds of places in text lies low, and how it is gathered.
use Rattle.std.proofs.Common.{◌≡◌, ◌<◌, ◌+◌, ◌*◌, ◌-◌, ◌%◌, ◌^◌, inl, inr, ℕ, zero, suc, Bool, true, false, not, List, [], ◌∷◌, ◌++◌, length, append_assoc, Option, Some, None, refl, sym, ap, ◌∙◌, arith, add-one, if◌then◌else◌, slice_index}
use Rattle.std.specs.Prelude.{◌==◌, ◌&&◌, ℤ, pos, slice_get}
use Rattle.std.specs.List.{All, flat_map, range_with_len}
use Rattle.std.proofs.Math.Nat.{zero-add}
use Rattle.std.proofs.lemmas.Bool.{and_parts, cases_lt}
use Rattle.std.proofs.lemmas.Bool.Decides.{nat_tests}
use Rattle.std.proofs.lemmas.List.{append-nil}
use Rattle.std.proofs.lemmas.List.Concat.{flat_map-append}
use Rattle.std.proofs.lemmas.List.Elements.{All-nil, All-cons, All-append}
use Rattle.std.proofs.lemmas.List.FromFn.{get_or-range_with_len, length-range_with_len}
use Rattle.elf64_records.specs.FileHeader.{e_shnum}
use Rattle.elf64_records.specs.Records.{rela_of}
use Rattle.elf64_records.specs.Sections.{sh_size}
use Rattle.object_set.specs.declared.places.RecordId.{RecordId}
use Rattle.object_set.specs.declared.places.SectionId.{SectionId}
use Rattle.object_set.specs.declared.places.SymbolId.{SymbolId}
use Rattle.object_set.specs.declared.sort.Sort.{Sort}
use Rattle.object_set.specs.declared.sort.Sort.TheVariants.{Text, Zeroed, Toc, Writable, ReadOnly, Dropped}
use Rattle.object_set.specs.Files.{file_at}
use Rattle.object_set.specs.Refusals.{set_refusal}
use Rattle.object_set.specs.Sections.{is_text_sort, sort_of}
use Rattle.object_set.specs.Walks.{IsRecord, all_items, section_walk}
use Rattle.object_set.specs.laws.Walks.{first_of, rest_of, all_given, all_records_in}
use Rattle.reloc_fields.specs.declared.kind.Kind.{Kind}
use Rattle.reloc_fields.specs.declared.kind.Kind.TheVariants as kinds
use Rattle.reloc_fields.specs.Table.{line_of}
use Rattle.symbol_table.specs.declared.target.Target.{Target}
use Rattle.symbol_table.specs.Records.{looks_at_symbol}
use Rattle.symbol_table.specs.Sites.{is_data_sort}
use Rattle.symbol_table.specs.Targets.{target_of}
use Rattle.symbol_table.specs.Text.{text_index}
use Rattle.toc_groups.specs.Contents.{IsDataField}
use Rattle.toc_groups.specs.Data.{group_start, group_slots, section_address, data_refusal}
use Rattle.toc_groups.specs.Groups.{group_count}
use Rattle.toc_groups.specs.Parts.{slot_place}
use Rattle.toc_groups.specs.Plans.{LaidData}
use Rattle.toc_groups.specs.Values.{section_place}
use Rattle.toc_groups.proofs.FieldFilling.{AreSound, low_range}
use Rattle.toc_groups.proofs.FieldOverflow.{field_range}
use Rattle.toc_groups.proofs.Rooms.{few_slots, stored_range}
use Rattle.toc_rewrite.specs.Records.{all_records, facts_of, goes, kind_of, record_target, target_by}
use Rattle.plain_machine.specs.declared.kept.AddressRange.{AddressRange}
use Rattle.plain_machine.specs.declared.place.TextPlace.{TextPlace}
use Rattle.plain_machine.specs.declared.pointer.PlacedPointer.{PlacedPointer}
use Rattle.plain_machine.specs.declared.pointer.Pointer.{Pointer}
use Rattle.plain_machine.specs.declared.pointer.Pointer.TheVariants.{Address}
use Rattle.toc_rewrite.specs.Folds.{is_toc_sort}
use Rattle.plain_run.specs.Places.{toc_range, toc_range_walk}
use Rattle.plain_run.specs.Data.{place_in, pointer_of, pointers_at, data_address, field_pointers, record_pointers, slot_pointers, group_pointers, data_pointers, symbol_target}
use Rattle.plain_run.specs.inside.Data.{IsSoundPlan, AreLow}

-- ---- a list that grows by what each number gives

range_more : (a n : ℕ) → range_with_len a (suc n) ≡ range_with_len a n ++ (a + n) ∷ []
range_more a zero = ap (λ (k : ℕ). k ∷ []) (let e : a ≡ a + 0 = omega arith in e)
range_more a (suc n) =
    ap (λ (l : List ℕ). a ∷ l) (range_more (a + 1) n)
    ∙ ap (λ (k : ℕ). a ∷ (range_with_len (a + 1) n ++ k ∷ [])) (let e : a + 1 + n ≡ a + suc n = omega arith in e)

module _ {Y : Type 0} (f : ℕ → List Y) where
  flat_more : (n : ℕ) → flat_map f (range_with_len 0 (n + 1)) ≡ flat_map f (range_with_len 0 n) ++ f n
  flat_more n =
      ap (λ (m : ℕ). flat_map f (range_with_len 0 m)) (add-one n) ∙ ap (flat_map f) (range_more 0 n)
      ∙ flat_map-append f (range_with_len 0 n) ((0 + n) ∷ [])
      ∙ ap (λ (l : List Y). flat_map f (range_with_len 0 n) ++ l) (append-nil (f (0 + n)) ∙ ap f (zero-add n))

  -- one number more
  pub put_next : (out now new : List Y) (k : ℕ) → now ≡ out ++ flat_map f (range_with_len 0 k) → new ≡ now ++ f k →
      new ≡ out ++ flat_map f (range_with_len 0 (k + 1))
  put_next out now new k so_far put =
      put ∙ ap (λ (l : List Y). l ++ f k) so_far ∙ append_assoc out (flat_map f (range_with_len 0 k)) (f k)
      ∙ ap (λ (l : List Y). out ++ l) (sym (flat_more k))

-- ---- the sections of the table of contents, by a walk through all sections

abbrev pub section_ranges : List (List ℕ) → ℕ → SectionId → List AddressRange
section_ranges files span s = toc_range files span s.file (file_at files s.file) s.section

pub walk_ranges : (files : List (List ℕ)) (span : ℕ) →
    flat_map (section_ranges files span) (all_items section_walk files) ≡ all_items (toc_range_walk files span) files
walk_ranges files span =
    all_given section_walk (toc_range_walk files span) files (section_ranges files span) (λ file. refl)
    (λ file n. append-nil (toc_range files span file (file_at files file) n))

pub toc_stored : (sort : Sort) → is_toc_sort sort ≡ true → is_data_sort sort ≡ true
toc_stored Text is = cc
toc_stored Zeroed is = cc
toc_stored Toc is = refl
toc_stored Writable is = cc
toc_stored ReadOnly is = cc
toc_stored Dropped is = cc

-- ---- what one record gives

no_text : (sort : Sort) → is_data_sort sort ≡ true → is_text_sort sort ≡ false
no_text Text is = cc
no_text Zeroed is = cc
no_text Toc is = refl
no_text Writable is = refl
no_text ReadOnly is = refl
no_text Dropped is = cc

-- a field lies so far behind the start of its section
pub data_place : (files : List (List ℕ)) (span : ℕ) (r : RecordId) (start offset : ℕ) →
    start ≡ section_address files span r.file (file_at files r.file) r.section →
    offset ≡ (rela_of (file_at files r.file) r.table r.entry).offset →
    is_data_sort (sort_of (file_at files r.file) r.section) ≡ true → (start + offset) % 2 ^ 64 ≡ data_address files span r
data_place files span r start offset at from sort =
    let b = file_at files r.file in
    let place : section_place files span [] r.file r.section ≡ section_address files span r.file b r.section =
    ap (λ (t : Bool). if t then slice_index [] (text_index files r.file r.section) else section_address files span r.file b r.section)
    (no_text (sort_of b r.section) sort) in
    ap (λ (x : ℕ). (x + offset) % 2 ^ 64) (at ∙ sym place)
    ∙ ap (λ (x : ℕ). (section_place files span [] r.file r.section + x) % 2 ^ 64) from

looks : (kind : Kind) → (kind ≡ kinds.Toc → ⊥) → looks_at_symbol kind ≡ true
looks = elim [ kinds.Toc ↦ λ other. absurd (other refl) | _ ↦ λ other. refl ]

-- a relocation that fills bytes, and not with the TOC base, goes somewhere
pub goes_by : (kind : Kind) → 0 < (line_of kind).width → (kind ≡ kinds.Toc → ⊥) → goes kind ≡ true
goes_by kind fills other =
    let wide : not ((line_of kind).width == 0) ≡ true = grind (arith, nat_tests, fills) in
    ap (λ (b : Bool). b && looks_at_symbol kind) wide ∙ looks kind other

-- it goes where its symbol and addend say
pub goes_to : (files : List (List ℕ)) (r : RecordId) (kind : Kind) (symbol : ℕ) (addend : ℤ) (o : Option Target) →
    kind_of files r ≡ Some kind → goes kind ≡ true → symbol ≡ (facts_of files r).symbol → addend ≡ (facts_of files r).addend →
    target_of files r.file symbol addend ≡ o → record_target files r ≡ o
goes_to files r kind symbol addend o kind_is does symbol_is addend_is to =
    let facts = facts_of files r in
    ap (target_by files r) kind_is
    ∙ ap (λ (b : Bool). if b then target_of files r.file facts.symbol facts.addend else None) does
    ∙ sym (ap (λ (s : ℕ). target_of files r.file s addend) symbol_is ∙ ap (λ (a : ℤ). target_of files r.file facts.symbol a) addend_is) ∙ to

abbrev placed : ℕ → Pointer → PlacedPointer
placed at pointer = record { at = at; pointer = pointer }

module _ (files : List (List ℕ)) (span : ℕ) (r : RecordId) where
  record_is : (kind : Kind) (o : Option TextPlace) → is_data_sort (sort_of (file_at files r.file) r.section) ≡ true →
      kind_of files r ≡ Some kind → place_in (record_target files r) ≡ o →
      record_pointers files span r ≡ pointers_at (data_address files span r) (pointer_of kind (data_address files span r)) o
  record_is kind o sort kind_is place_is =
      let at = data_address files span r in
      ap (λ (b : Bool). if b then field_pointers files span r (kind_of files r) else []) sort ∙ ap (field_pointers files span r) kind_is
      ∙ ap (pointers_at at (pointer_of kind at)) place_is

  -- a record with a field in data that goes to a place
  pub record_more : (kind : Kind) (p : TextPlace) (at : ℕ) (pointer : Pointer) (old new : List PlacedPointer) → IsDataField files r kind →
      place_in (record_target files r) ≡ Some p → at ≡ data_address files span r → pointer ≡ pointer_of kind at p →
      new ≡ old ++ placed at pointer ∷ [] → new ≡ old ++ record_pointers files span r
  record_more kind p at pointer old new field place_is at_is pointer_is put =
      put
      ∙ ap (λ (q : PlacedPointer). old ++ q ∷ [])
      (ap (λ (a : ℕ). placed a pointer) at_is
      ∙ ap (placed (data_address files span r)) (pointer_is ∙ ap (λ (a : ℕ). pointer_of kind a p) at_is))
      ∙ ap (λ (l : List PlacedPointer). old ++ l) (sym (record_is kind (Some p) field.sort field.kind_is place_is))

-- ---- what one slot gives

module _ (files : List (List ℕ)) (span g k : ℕ) where
  slot_is : (s : SymbolId) (o : Option TextPlace) → slice_get (group_slots files span g) k ≡ Some s →
      place_in (target_of files s.file s.symbol (pos 0)) ≡ o →
      slot_pointers files span g k ≡ pointers_at (slot_place files span g k) Address o
  slot_is s o found place_is =
      ap (λ (t : Option SymbolId). pointers_at (slot_place files span g k) Address (place_in (symbol_target files span t))) found
      ∙ ap (pointers_at (slot_place files span g k) Address) place_is

  -- a slot whose symbol is a place
  pub slot_more : (s : SymbolId) (p : TextPlace) (at : ℕ) (old new : List PlacedPointer) →
      slice_get (group_slots files span g) k ≡ Some s → place_in (target_of files s.file s.symbol (pos 0)) ≡ Some p →
      at ≡ slot_place files span g k → new ≡ old ++ placed at (Address p) ∷ [] → new ≡ old ++ slot_pointers files span g k
  slot_more s p at old new found place_is at_is put =
      put ∙ ap (λ (a : ℕ). old ++ placed a (Address p) ∷ []) at_is
      ∙ ap (λ (l : List PlacedPointer). old ++ l) (sym (slot_is s (Some p) found place_is))

-- ---- all lies low

module _ (files : List (List ℕ)) (span : ℕ) (whole : set_refusal files ≡ None) (fits : data_refusal files span ≡ None) where
  -- the slots of a group end low, and so does a section
  pub slots_end : (g : ℕ) → g < group_count files span → group_start files span g < 2 ^ 64 →
      group_start files span g + 8 * length (group_slots files span g) < 2 ^ 64
  slots_end g group start =
      let count = length (group_slots files span g) in
      elim (cases_lt 0 count) [
        | inl some ↦ (let last = few_slots files span g (count - 1) whole fits group (omega (arith, some)) in omega (arith, last, some))
        | inr none ↦ omega (arith, none, start)
      ]

  pub section_end : (file i : ℕ) → file < length files → i < e_shnum (file_at files file) →
      is_data_sort (sort_of (file_at files file) i) ≡ true → section_address files span file (file_at files file) i < 2 ^ 64 →
      section_address files span file (file_at files file) i + sh_size (file_at files file) i < 2 ^ 64
  section_end file i within inside stored start =
      let b = file_at files file in
      elim (cases_lt 0 (sh_size b i)) [
        | inl some ↦ (
            let range = stored_range files span file i whole within inside stored some in
            omega (arith, low_range files span (section_address files span file b i) (sh_size b i) whole fits range))
        | inr none ↦ omega (arith, none, start)
      ]

abbrev IsLow : PlacedPointer → Type 0
IsLow q = q.at < 2 ^ 63

pointers_low : (at : ℕ) (make : TextPlace → Pointer) (o : Option TextPlace) → ((p : TextPlace) → o ≡ Some p → at < 2 ^ 63) →
    AreLow (pointers_at at make o)
pointers_low at make None low = All-nil IsLow
pointers_low at make (Some p) low = All-cons IsLow (record { at = at; pointer = make p }) [] (low p refl) (All-nil IsLow)

all_flat : {X Y : Type 0} (P : Y → Type 0) (Q : X → Type 0) (f : X → List Y) (xs : List X) → All Q xs →
    ((x : X) → Q x → All P (f x)) → All P (flat_map f xs)
all_flat P Q f [] all each = All-nil P
all_flat P Q f (x ∷ xs) all each =
    All-append P (f x) (flat_map f xs) (each x (first_of Q (x ∷ xs) xs x all refl))
    (all_flat P Q f xs (rest_of Q (x ∷ xs) xs x all refl) each)

all_below : (n : ℕ) → All (λ k. k < n) (range_with_len 0 n)
all_below n = λ k d within.
    let long = length-range_with_len 0 n in
    let less : k < n = omega (arith, within, long) in
    let is = get_or-range_with_len 0 n k d less in
    omega (arith, is, less)

-- a relocation that goes to a place fills bytes
fills_case : (kind : Kind) (does : Bool) (t : Option Target) (p : TextPlace) → goes kind ≡ does →
    place_in (if does then t else None) ≡ Some p → 0 < (line_of kind).width
fills_case kind true t p is goes_to =
    let parts = and_parts (not ((line_of kind).width == 0)) (looks_at_symbol kind) is in
    let wide = parts.0 in
    grind (arith, nat_tests, wide)
fills_case kind false t p is goes_to = cc

module _ (files : List (List ℕ)) (plan : LaidData) (sound : IsSoundPlan files plan) where
  sound_data : AreSound files plan.span []
  sound_data = record { whole = sound.whole; records = sound.records; fits = sound.plan_is.fits }

  field_low : (r : RecordId) (o : Option Kind) → IsRecord files r → is_data_sort (sort_of (file_at files r.file) r.section) ≡ true →
      kind_of files r ≡ o → AreLow (field_pointers files plan.span r o)
  field_low r None is sort kind_is = All-nil IsLow
  field_low r (Some kind) is sort kind_is =
      let at = data_address files plan.span r in
      pointers_low at (pointer_of kind at) (place_in (record_target files r))
      (λ p goes_to.
      let does = ap (λ (o : Option Kind). place_in (target_by files r o)) (sym kind_is) ∙ goes_to in
      let field : IsDataField files r kind = record {
        there = is;
        kind_is = kind_is;
        fills = fills_case kind (goes kind) _ p refl does;
        sort = sort;
      } in
      let range = field_range files plan.span [] r kind sound_data field in
      omega (arith, low_range files plan.span at (line_of kind).width sound.whole sound.plan_is.fits range))

  record_case : (r : RecordId) (stored : Bool) → IsRecord files r → is_data_sort (sort_of (file_at files r.file) r.section) ≡ stored →
      AreLow (if stored then field_pointers files plan.span r (kind_of files r) else [])
  record_case r true is sort = field_low r (kind_of files r) is sort refl
  record_case r false is sort = All-nil IsLow

  slot_low : (g k : ℕ) → g < group_count files plan.span → k < length (group_slots files plan.span g) →
      AreLow (slot_pointers files plan.span g k)
  slot_low g k group within =
      pointers_low (slot_place files plan.span g k) Address _
      (λ p goes_to. omega (arith, few_slots files plan.span g k sound.whole sound.plan_is.fits group within))

  group_low : (g : ℕ) → g < group_count files plan.span → AreLow (group_pointers files plan.span g)
  group_low g group =
      let n = length (group_slots files plan.span g) in
      all_flat IsLow (λ k. k < n) (slot_pointers files plan.span g) (range_with_len 0 n) (all_below n)
      (λ k within. slot_low g k group within)

  -- what data holds of places lies low
  pub data_low : AreLow (data_pointers files plan.span)
  data_low =
      let n = group_count files plan.span in
      All-append IsLow (flat_map (record_pointers files plan.span) (all_records files))
      (flat_map (group_pointers files plan.span) (range_with_len 0 n))
      (all_flat IsLow (IsRecord files) (record_pointers files plan.span) (all_records files) (all_records_in files)
      (λ r is. record_case r (is_data_sort (sort_of (file_at files r.file) r.section)) is refl))
      (all_flat IsLow (λ g. g < n) (group_pointers files plan.span) (range_with_len 0 n) (all_below n) group_low)
