-- What memory holds of data is determined: each address is a field's, another byte of a section, a slot's, or free.
use Rattle.std.proofs.Common.{ℕ, zero, suc, ◌≡◌, ◌<◌, ◌+◌, ◌-◌, ◌⊎◌, inl, inr, Bool, true, false, List, [], ◌∷◌, ◌++◌, length, map, Option, Some, None, slice_get, get_or, ap, sym, subst, ◌∙◌, refl, arith}
use Rattle.std.specs.List.{range_with_len}
use Rattle.std.proofs.lemmas.Bool.{cases_lt}
use Rattle.elf64_exec.specs.declared.layout.Segment.{Segment}
use Rattle.elf64_exec.specs.declared.memory_map.TheConstants.{IMAGE_START, READ_ONLY, WRITABLE}
use Rattle.elf64_records.specs.FileHeader.{e_shnum}
use Rattle.elf64_records.specs.Records.{record_count, rela_of}
use Rattle.elf64_records.specs.Sections.{sh_info}
use Rattle.object_set.specs.declared.places.RecordId.{RecordId}
use Rattle.object_set.specs.declared.places.SectionId.{SectionId}
use Rattle.object_set.specs.declared.places.SymbolId.{SymbolId}
use Rattle.object_set.specs.Files.{file_at}
use Rattle.object_set.specs.Sections.{sort_of}
use Rattle.object_set.specs.Walks.{record_id}
use Rattle.reloc_fields.specs.declared.kind.Kind.{Kind}
use Rattle.reloc_fields.specs.Table.{line_of}
use Rattle.symbol_table.specs.Fields.{kind_numbered}
use Rattle.symbol_table.specs.Sites.{is_data_sort}
use Rattle.toc_groups.specs.Data.{read_only_end, writable_start, writable_end, commons_end, group_slots}
use Rattle.toc_groups.specs.Groups.{group_count}
use Rattle.toc_groups.specs.Parts.{Covers, slot_place}
use Rattle.toc_groups.specs.Values.{field_address, symbol_address}
use Rattle.toc_groups.specs.Contents.{HoldsData, AreDataSegments, IsStored, IsDataField, IsSlot, HasByte, section_start, section_size, field_bytes, bytes_between}
use Rattle.toc_groups.specs.inside.Filled.{segment}
use Rattle.toc_groups.proofs.FieldFilling.{AreSound, field_at, field_long, home, offset_of}
use Rattle.toc_groups.proofs.Filling.{section}
use Rattle.toc_groups.proofs.Planning.{slice_get_at}
use Rattle.byteorder.specs.Endian.{little_bytes}
use Rattle.byteorder.specs.Numbers.{length-bytes_low_first}

-- a fact that holds or doesn't, at each number below another
abbrev Decided : Type 0 → Type 0
Decided P = P ⊎ (P → ⊥)

record Found (P : ℕ → Type 0) (n : ℕ) : Type 0 where
  at : ℕ
  below : at < n
  holds : P at

next_case : (P : ℕ → Type 0) (n : ℕ) → Decided (P n) → Decided (Found P n) → Decided (Found P (suc n))
next_case P n here (inl found) = inl (record { at = found.at; below = omega (arith, found.below); holds = found.holds })
next_case P n (inl holds) (inr none) = inl (record { at = n; below = omega arith; holds = holds })
next_case P n (inr fails) (inr none) = inr (λ found. elim (cases_lt found.at n) [
  | inl less ↦ none (record { at = found.at; below = less; holds = found.holds })
  | inr most ↦ (let same : found.at ≡ n = omega (arith, most, found.below) in fails (subst P same found.holds))
])

search : (P : ℕ → Type 0) → ((k : ℕ) → Decided (P k)) → (n : ℕ) → Decided (Found P n)
search P decides zero = inr (λ found. omega (arith, found.below))
search P decides (suc n) = next_case P n (decides n) (search P decides n)

covers_or : (start size a : ℕ) → Decided (Covers start size a)
covers_or start size a = elim (cases_lt a start) [
  | inl before ↦ inr (λ covers. omega (arith, covers.from, before))
  | inr from ↦ elim (cases_lt a (start + size)) [
    | inl below ↦ inl (record { from = from; below = below })
    | inr after ↦ inr (λ covers. omega (arith, covers.below, after))
  ]
]

both_or : (P Q : Type 0) → Decided P → Decided Q → Decided (P × Q)
both_or P Q (inl p) (inl q) = inl (p, q)
both_or P Q (inl p) (inr none) = inr (λ both. none both.1)
both_or P Q (inr none) other = inr (λ both. none both.0)

bool_or : (b : Bool) → Decided (b ≡ true)
bool_or true = inl refl
bool_or false = inr (λ is. cc)

module _ (files : List (List ℕ)) (span : ℕ) (text : List ℕ) (sound : AreSound files span text) where
  -- ---- which section has an address

  abbrev SectionHas : ℕ → ℕ → ℕ → Type 0
  SectionHas a file i =
      (is_data_sort (sort_of (file_at files file) i) ≡ true)
      × Covers (section_start files span (section file i)) (section_size files (section file i)) a

  abbrev FileHas : ℕ → ℕ → Type 0
  FileHas a file = Found (SectionHas a file) (e_shnum (file_at files file))

  section_or : (a : ℕ) → Decided (Found (FileHas a) (length files))
  section_or a =
      search (FileHas a) (λ file.
      search (SectionHas a file) (λ i.
      both_or (is_data_sort (sort_of (file_at files file) i) ≡ true)
      (Covers (section_start files span (section file i)) (section_size files (section file i)) a)
      (bool_or (is_data_sort (sort_of (file_at files file) i)))
      (covers_or (section_start files span (section file i)) (section_size files (section file i)) a)) (e_shnum (file_at files file)))
      (length files)

  -- ---- which field has a byte of a section

  abbrev KindHas : RecordId → SectionId → ℕ → Option Kind → Type 0
  KindHas r s n None = ⊥
  KindHas r s n (Some kind) =
      (0 < (line_of kind).width) × Covers (rela_of (file_at files r.file) r.table r.entry).offset (line_of kind).width n

  kind_or : (r : RecordId) (s : SectionId) (n : ℕ) (o : Option Kind) → Decided (KindHas r s n o)
  kind_or r s n None = inr (λ has. has)
  kind_or r s n (Some kind) =
      both_or (0 < (line_of kind).width) (Covers (rela_of (file_at files r.file) r.table r.entry).offset (line_of kind).width n)
      (elim (cases_lt 0 (line_of kind).width) [ inl some ↦ inl some | inr none ↦ inr (λ some. omega (arith, none, some)) ])
      (covers_or (rela_of (file_at files r.file) r.table r.entry).offset (line_of kind).width n)

  same_or : (x y : ℕ) → Decided (x ≡ y)
  same_or x y = elim (cases_lt x y) [
    | inl less ↦ inr (λ same. omega (arith, less, same))
    | inr most ↦ elim (cases_lt y x) [
      | inl less ↦ inr (λ same. omega (arith, less, same))
      | inr more ↦ inl (let e : x ≡ y = omega (arith, most, more) in e)
    ]
  ]

  abbrev entry_of : SectionId → ℕ → ℕ → RecordId
  entry_of s table entry = record_id s.file (file_at files s.file) table entry

  abbrev EntryHas : SectionId → ℕ → ℕ → ℕ → Type 0
  EntryHas s n table entry =
      (sh_info (file_at files s.file) table ≡ s.section)
      × KindHas (entry_of s table entry) s n (kind_numbered (rela_of (file_at files s.file) table entry).kind)

  abbrev TableHas : SectionId → ℕ → ℕ → Type 0
  TableHas s n table = Found (EntryHas s n table) (record_count (file_at files s.file) table)

  entry_or : (s : SectionId) (n : ℕ) → Decided (Found (TableHas s n) (e_shnum (file_at files s.file)))
  entry_or s n =
      search (TableHas s n) (λ table.
      search (EntryHas s n table) (λ entry.
      both_or (sh_info (file_at files s.file) table ≡ s.section)
      (KindHas (entry_of s table entry) s n (kind_numbered (rela_of (file_at files s.file) table entry).kind))
      (same_or (sh_info (file_at files s.file) table) s.section)
      (kind_or (entry_of s table entry) s n (kind_numbered (rela_of (file_at files s.file) table entry).kind)))
      (record_count (file_at files s.file) table)) (e_shnum (file_at files s.file))

  -- a field that has a byte
  record FieldHas (s : SectionId) (n : ℕ) : Type 0 where
    id : RecordId
    kind : Kind
    field : IsDataField files id kind
    has : HasByte files id kind s n

  kind_field : (s : SectionId) (n table entry : ℕ) (o : Option Kind) → IsStored files s → table < e_shnum (file_at files s.file) →
      entry < record_count (file_at files s.file) table → sh_info (file_at files s.file) table ≡ s.section →
      kind_numbered (rela_of (file_at files s.file) table entry).kind ≡ o → KindHas (entry_of s table entry) s n o → FieldHas s n
  kind_field s n table entry None stored inside few about is has = absurd has
  kind_field s n table entry (Some kind) stored inside few about is has = record {
    id = entry_of s table entry;
    kind = kind;
    field = record {
      there = record { file_in = stored.there.file_in; table_in = inside; within = few; section_is = refl };
      kind_is = is;
      fills = has.0;
      sort = subst (λ (i : ℕ). is_data_sort (sort_of (file_at files s.file) i) ≡ true) (sym about) stored.sort;
    };
    has = record { file_is = refl; section_is = about; covers = has.1 };
  }

  field_kind : (s : SectionId) (n : ℕ) (r : RecordId) (kind : Kind) (o : Option Kind) → IsDataField files r kind →
      HasByte files r kind s n →
      kind_numbered (rela_of (file_at files r.file) r.table r.entry).kind ≡ o → KindHas r s n o
  field_kind s n r kind None is has there = (let both : None ≡ Some kind = sym there ∙ is.kind_is in cc)
  field_kind s n r kind (Some other) is has there =
      let both : Some kind ≡ Some other = sym is.kind_is ∙ there in
      let same : kind ≡ other = cc in
      subst (λ (k : Kind). (0 < (line_of k).width) × Covers (rela_of (file_at files r.file) r.table r.entry).offset (line_of k).width n)
      same
      (is.fills, has.covers)

  found_field : (s : SectionId) (n : ℕ) (r : RecordId) (kind : Kind) → IsDataField files r kind → HasByte files r kind s n →
      Found (TableHas s n) (e_shnum (file_at files s.file))
  found_field s n r kind is has =
      let P : ℕ → Type 0 = λ f. (r.table < e_shnum (file_at files f)) × (r.entry < record_count (file_at files f) r.table)
      × (sh_info (file_at files f) r.table ≡ s.section)
      × KindHas (record_id f (file_at files f) r.table r.entry) s n (kind_numbered (rela_of (file_at files f) r.table r.entry).kind) in
      let own : P r.file = (
        is.there.table_in,
        is.there.within,
        sym is.there.section_is ∙ has.section_is,
        field_kind s n r kind (kind_numbered (rela_of (file_at files r.file) r.table r.entry).kind) is has refl,
      ) in
      let there : P s.file = subst P has.file_is own in
      record { at = r.table; below = there.0; holds = record { at = r.entry; below = there.1; holds = (there.2, there.3) } }

  field_or : (s : SectionId) (n : ℕ) → IsStored files s → Decided (FieldHas s n)
  field_or s n stored = elim (entry_or s n) [
    | inl found ↦ inl (
        let table = found.at in
        let entry = found.holds.at in
        kind_field s n table entry (kind_numbered (rela_of (file_at files s.file) table entry).kind) stored found.below
        found.holds.below found.holds.holds.0 refl found.holds.holds.1)
    | inr none ↦ inr (λ has. none (found_field s n has.id has.kind has.field has.has))
  ]

  -- ---- which slot has an address

  abbrev SlotHas : ℕ → ℕ → ℕ → Type 0
  SlotHas a g k = Covers (slot_place files span g k) 8 a

  abbrev GroupHas : ℕ → ℕ → Type 0
  GroupHas a g = Found (SlotHas a g) (length (group_slots files span g))

  slot_or : (a : ℕ) → Decided (Found (GroupHas a) (group_count files span))
  slot_or a =
      search (GroupHas a) (λ g. search (SlotHas a g) (λ k. covers_or (slot_place files span g k) 8 a) (length (group_slots files span g)))
      (group_count files span)

  slot_within : (g k : ℕ) (s : SymbolId) (xs : List SymbolId) → slice_get xs k ≡ Some s → k < length xs
  slot_within g k s [] found = cc
  slot_within g zero s (x ∷ xs) found = omega arith
  slot_within g (suc k) s (x ∷ xs) found = omega (arith, slot_within g k s xs found)

  -- ---- the byte at an address

  module _ (b b' : ℕ → ℕ) (holds : HoldsData files span text b) (holds' : HoldsData files span text b') where
    in_field : (a : ℕ) (s : SectionId) (n : ℕ) → a ≡ section_start files span s + n → FieldHas s n → b a ≡ b' a
    in_field a s n at has =
        let r = has.id in
        let place = field_at files span text r has.kind sound has.field in
        let long = field_long files span text r has.kind in
        let same : section_start files span (home files span text r) ≡ section_start files span s =
        ap (λ (f : ℕ). section_start files span (section f r.section)) has.has.file_is
        ∙ ap (λ (i : ℕ). section_start files span (section s.file i)) has.has.section_is in
        let m = n - offset_of files span text r in
        let e : a ≡ field_address files span text r + m = omega (arith, at, place, same, has.has.covers.from) in
        let within : m < length (field_bytes files span text r has.kind) = omega (arith, long, has.has.covers.from, has.has.covers.below) in
        ap b e ∙ holds.fields r has.kind has.field m within ∙ sym (holds'.fields r has.kind has.field m within) ∙ ap b' (sym e)

    in_section : (a : ℕ) (s : SectionId) → IsStored files s → Covers (section_start files span s) (section_size files s) a → b a ≡ b' a
    in_section a s stored covers =
        let n = a - section_start files span s in
        let at : a ≡ section_start files span s + n = omega (arith, covers.from) in
        let within : n < section_size files s = omega (arith, covers.from, covers.below) in
        elim (field_or s n stored) [
          | inl has ↦ in_field a s n at has
          | inr none ↦ (
              let free : (r : RecordId) (kind : Kind) → IsDataField files r kind → HasByte files r kind s n → ⊥ =
              λ r kind is has. none (record { id = r; kind = kind; field = is; has = has }) in
              ap b at ∙ holds.sections s n stored within free ∙ sym (holds'.sections s n stored within free) ∙ ap b' (sym at))
        ]

    in_slot : (a g k : ℕ) → g < group_count files span → k < length (group_slots files span g) → Covers (slot_place files span g k) 8 a →
        b a ≡ b' a
    in_slot a g k within inside covers =
        let s = get_or (group_slots files span g) k (record { file = 0; symbol = 0 }) in
        let is : IsSlot files span g k s =
        record { group_in = within; symbol = slice_get_at (group_slots files span g) k (record { file = 0; symbol = 0 }) inside } in
        let long = length-bytes_low_first 0 8 (symbol_address files span text s.file s.symbol) in
        let m = a - slot_place files span g k in
        let e : a ≡ slot_place files span g k + m = omega (arith, covers.from) in
        let low : m < length (little_bytes 8 (symbol_address files span text s.file s.symbol)) =
        omega (arith, covers.from, covers.below, long) in
        ap b e ∙ holds.slots g k s is m low ∙ sym (holds'.slots g k s is m low) ∙ ap b' (sym e)

    pub one_byte : (a : ℕ) → b a ≡ b' a
    one_byte a = elim (section_or a) [
      | inl found ↦ (
          let file = found.at in
          let i = found.holds.at in
          in_section a (section file i)
          (record { there = record { file_in = found.below; within = found.holds.below }; sort = found.holds.holds.0 })
          found.holds.holds.1)
      | inr none ↦ (
          let no_section : (s : SectionId) → IsStored files s → Covers (section_start files span s) (section_size files s) a → ⊥ =
          λ s stored covers. none (record {
            at = s.file;
            below = stored.there.file_in;
            holds = record { at = s.section; below = stored.there.within; holds = (stored.sort, covers) };
          }) in
          elim (slot_or a) [
            | inl found ↦ in_slot a found.at found.holds.at found.below found.holds.below found.holds.holds
            | inr free ↦ (
                let no_slot : (g k : ℕ) (s : SymbolId) → IsSlot files span g k s → Covers (slot_place files span g k) 8 a → ⊥ =
                λ g k s is covers. free (record {
                  at = g;
                  below = is.group_in;
                  holds = record { at = k; below = slot_within g k s (group_slots files span g) is.symbol; holds = covers };
                }) in
                holds.zeros a (record { sections = no_section; slots = no_slot })
                ∙ sym (holds'.zeros a (record { sections = no_section; slots = no_slot })))
          ])
    ]

  same_mapped : (f g : ℕ → ℕ) → ((a : ℕ) → f a ≡ g a) → (xs : List ℕ) → map f xs ≡ map g xs
  same_mapped f g same [] = refl
  same_mapped f g same (x ∷ xs) = ap (λ (y : ℕ). y ∷ map f xs) (same x) ∙ ap (λ (l : List ℕ). g x ∷ l) (same_mapped f g same xs)

  same_between : (b b' : ℕ → ℕ) → ((a : ℕ) → b a ≡ b' a) → (start stop : ℕ) → bytes_between b start stop ≡ bytes_between b' start stop
  same_between b b' same start stop = same_mapped b b' same (range_with_len start (stop - start))

  -- there is one list of segments
  pub one_data : (xs ys : List Segment) → AreDataSegments files span text xs → AreDataSegments files span text ys → xs ≡ ys
  one_data xs ys first second =
      let same = one_byte first.byte second.byte first.holds second.holds in
      let made : List ℕ → List ℕ → List Segment = λ one two.
      segment READ_ONLY one IMAGE_START (read_only_end files) ++ segment WRITABLE two (writable_start files) (commons_end files span) in
      first.are
      ∙ ap (λ (l : List ℕ). made l (bytes_between first.byte (writable_start files) (writable_end files span)))
      (same_between first.byte second.byte same IMAGE_START (read_only_end files))
      ∙ ap (made (bytes_between second.byte IMAGE_START (read_only_end files)))
      (same_between first.byte second.byte same (writable_start files) (writable_end files span))
      ∙ sym second.are
