-- Memory while the fields of records are filled: no two fields have a byte in common, and each lies in its section.
use Rattle.std.proofs.Common.{ℕ, ◌≡◌, ◌<◌, ◌≤◌, ◌+◌, ◌%◌, ◌^◌, ◌⊎◌, inl, inr, Bool, true, false, ◌||◌, ◌&&◌, ◌==◌, nat_lt, List, length, Some, None, slice_index, ap, sym, subst, ◌∙◌, refl, arith, if◌then◌else◌}
use Rattle.std.proofs.lemmas.Bool.{cases_lt}
use Rattle.std.proofs.lemmas.Bool.Decides.{nat_tests}
use Rattle.byteorder.specs.Numbers.{length-bytes_low_first}
use Rattle.elf64_records.specs.FileHeader.{e_shnum}
use Rattle.elf64_records.specs.Records.{record_count, rela_of}
use Rattle.elf64_records.specs.Sections.{section_bytes, sh_info}
use Rattle.object_set.specs.declared.places.RecordId.{RecordId}
use Rattle.object_set.specs.declared.places.SectionId.{SectionId}
use Rattle.object_set.specs.declared.sort.Sort.{Sort}
use Rattle.object_set.specs.declared.sort.Sort.TheVariants.{Text, Zeroed, Toc, Writable, ReadOnly, Dropped}
use Rattle.object_set.specs.Files.{file_at}
use Rattle.object_set.specs.Refusals.{set_refusal}
use Rattle.object_set.specs.Sections.{is_text, is_text_sort, sort_of}
use Rattle.object_set.specs.Walks.{IsRecord}
use Rattle.ppc_bytes.specs.Bytes.{number_at}
use Rattle.reloc_fields.specs.declared.kind.Kind.{Kind}
use Rattle.reloc_fields.specs.Table.{line_of, filled}
use Rattle.symbol_table.specs.Fields.{kind_numbered, width_in, field_of, comes_before}
use Rattle.symbol_table.specs.Records.{records_refusal}
use Rattle.symbol_table.specs.Sites.{is_data_sort}
use Rattle.symbol_table.specs.Text.{text_index}
use Rattle.symbol_table.specs.laws.Records.{IsSoundField, fields_apart}
use Rattle.symbol_table.specs.laws.Sections.{record_about}
use Rattle.toc_groups.specs.Data.{section_address, data_refusal}
use Rattle.toc_groups.specs.Groups.{group_count}
use Rattle.toc_groups.specs.Parts.{Covers, slot_place}
use Rattle.toc_groups.specs.Plans.{LaidData, data_ends}
use Rattle.toc_groups.specs.Values.{symbol_address, section_place, field_address, record_value}
use Rattle.toc_groups.specs.Contents.{AreOfFiles, HoldsBytes, HoldsData, IsStored, IsDataField, section_start, section_size, field_bytes}
use Rattle.toc_groups.specs.inside.Memory.{Puts, HasRange}
use Rattle.toc_groups.specs.inside.Filled.{RecordFirst, AreSlotted, AreFilled}
use Rattle.toc_groups.proofs.Filling.{section, one_stored, slot_beside}
use Rattle.toc_groups.proofs.RecordValues.{sound_field}
use Rattle.toc_groups.proofs.Rooms.{stored_range, data_low}
use Rattle.toc_groups.proofs.Running.{in_order}

no_text : (s : Sort) → is_data_sort s ≡ true → is_text_sort s ≡ false
no_text Text is = cc
no_text Zeroed is = cc
no_text Toc is = refl
no_text Writable is = refl
no_text ReadOnly is = refl
no_text Dropped is = cc

pub low_range : (files : List (List ℕ)) (span at n : ℕ) → set_refusal files ≡ None → data_refusal files span ≡ None →
    HasRange (data_ends files span) at n → at + n ≤ 0x40000000
low_range files span at n whole fits (inl range) =
    let order = in_order files span whole in
    omega (arith, range.1, data_low files span whole fits, order.read_only, order.groups, order.writable, order.zeroed, order.commons)
low_range files span at n whole fits (inr range) =
    let order = in_order files span whole in
    omega (arith, range.1, data_low files span whole fits, order.zeroed, order.commons)

module _ (files : List (List ℕ)) (span : ℕ) (text : List ℕ) where
  pub record AreSound : Type 0 where
    pub whole : set_refusal files ≡ None
    pub records : records_refusal files ≡ None
    pub fits : data_refusal files span ≡ None

  -- the files of a job are sound
  pub sound_files : (set : List (List ℕ)) (plan : LaidData) → set ≡ files → set_refusal set ≡ None → AreOfFiles files plan text →
      plan.span ≡ span → AreSound
  sound_files set plan same whole job is = record {
    whole = ap set_refusal (sym same) ∙ whole;
    records = job.records;
    fits = subst (λ (n : ℕ). data_refusal files n ≡ None) is job.plan_is.fits;
  }

  abbrev pub offset_of : RecordId → ℕ
  offset_of r = (rela_of (file_at files r.file) r.table r.entry).offset

  -- the section that a field is in
  abbrev pub home : RecordId → SectionId
  home r = section r.file r.section

  pub home_stored : (r : RecordId) (kind : Kind) → AreSound → IsDataField files r kind → IsStored files (home r)
  home_stored r kind sound is =
      let about = record_about files r sound.whole is.there in
      record { there = record { file_in = is.there.file_in; within = about.within }; sort = is.sort }

  pub field_sound : (r : RecordId) (kind : Kind) → AreSound → IsDataField files r kind → IsSoundField files r kind
  field_sound r kind sound is = sound_field files r kind sound.records is.there is.kind_is is.fills

  pub field_at : (r : RecordId) (kind : Kind) → AreSound → IsDataField files r kind →
      field_address files span text r ≡ section_start files span (home r) + offset_of r
  field_at r kind sound is =
      let b = file_at files r.file in
      let within = (field_sound r kind sound is).within in
      let stored = home_stored r kind sound is in
      let range = low_range files span (section_start files span (home r)) (section_size files (home r)) sound.whole sound.fits
      (stored_range files span r.file r.section sound.whole stored.there.file_in stored.there.within is.sort
      (omega (arith, within, is.fills))) in
      let other : is_text b r.section ≡ false = no_text (sort_of b r.section) is.sort in
      let place : section_place files span text r.file r.section ≡ section_start files span (home r) =
      ap (λ (t : Bool). if t then slice_index text (text_index files r.file r.section) else section_address files span r.file b r.section)
      other in
      let sum : (section_start files span (home r) + offset_of r) % 2 ^ 64 ≡ section_start files span (home r) + offset_of r =
      omega (arith, within, range) in
      ap (λ (x : ℕ). (x + offset_of r) % 2 ^ 64) place ∙ sum

  pub field_long : (r : RecordId) (kind : Kind) → length (field_bytes files span text r kind) ≡ (line_of kind).width
  unfolding field_bytes
  field_long r kind =
      let b = file_at files r.file in
      length-bytes_low_first 0 (line_of kind).width
      (filled (line_of kind).filling (number_at (line_of kind).width (section_bytes b r.section) (offset_of r))
      (record_value files span text r kind))

  abbrev field_covers : RecordId → Kind → ℕ → Type 0
  field_covers r kind a = Covers (field_address files span text r) (length (field_bytes files span text r kind)) a

  -- an address of a field is one of its section
  in_home : (r : RecordId) (kind : Kind) (a : ℕ) → AreSound → IsDataField files r kind → field_covers r kind a →
      Covers (section_start files span (home r)) (section_size files (home r)) a
  in_home r kind a sound is covers =
      let at = field_at r kind sound is in
      let long = field_long r kind in
      let within = (field_sound r kind sound is).within in
      record { from = omega (arith, at, covers.from); below = omega (arith, at, long, within, covers.below) }

  before_case : (file i k : ℕ) (q : RecordId) → RecordFirst file i k q → q.file ≡ file →
      (nat_lt q.table i || (q.table == i && nat_lt q.entry k)) ≡ true
  before_case file i k q (inl less) same = absurd (omega (arith, less, same))
  before_case file i k q (inr first) same = elim (first.1) [
    | inl less ↦ grind (arith, nat_tests, less)
    | inr entry ↦ (let t = entry.0 in let e = entry.1 in grind (arith, nat_tests, t, e))
  ]

  -- an earlier field has no address of a later one
  pub fields_beside : (q r : RecordId) (kind kind' : Kind) (a : ℕ) → AreSound → IsDataField files q kind → IsDataField files r kind' →
      RecordFirst r.file r.table r.entry q → field_covers q kind a → field_covers r kind' a → ⊥
  fields_beside q r kind kind' a sound is is' first covers covers' =
      let same = one_stored files span (home q) (home r) a sound.whole (home_stored q kind sound is) (home_stored r kind' sound is')
      (in_home q kind a sound is covers) (in_home r kind' a sound is' covers') in
      let file : q.file ≡ r.file = ap (λ (s : SectionId). s.file) same in
      let number : q.section ≡ r.section = ap (λ (s : SectionId). s.section) same in
      let b = file_at files r.file in
      let bytes : file_at files q.file ≡ b = ap (file_at files) file in
      let before : comes_before q r ≡ true = before_case r.file r.table r.entry q first file in
      let kind_q : kind_numbered (rela_of b q.table q.entry).kind ≡ Some kind =
      subst (λ (c : List ℕ). kind_numbered (rela_of c q.table q.entry).kind ≡ Some kind) bytes is.kind_is in
      let width_q : (field_of b q).width ≡ (line_of kind).width = ap width_in kind_q in
      let width_r : (field_of b r).width ≡ (line_of kind').width = ap width_in is'.kind_is in
      let offset_q : offset_of q ≡ (rela_of b q.table q.entry).offset = ap (λ (c : List ℕ). (rela_of c q.table q.entry).offset) bytes in
      let start : section_start files span (home q) ≡ section_start files span (home r) = ap (section_start files span) same in
      let at_q = field_at q kind sound is in
      let at_r = field_at r kind' sound is' in
      let long_q = field_long q kind in
      let long_r = field_long r kind' in
      elim (fields_apart files q r (field_sound r kind' sound is').apart is.there file number before
      (omega (arith, width_q, is.fills)) (omega (arith, width_r, is'.fills))) [
        | inl less ↦ omega (arith, less, width_q, width_r, offset_q, start, at_q, at_r, long_q, long_r, covers.below, covers'.from)
        | inr more ↦ omega (arith, more, width_q, width_r, offset_q, start, at_q, at_r, long_q, long_r, covers'.below, covers.from)
      ]

  -- ---- order of records

  record_or : (file i k : ℕ) (q : RecordId) → RecordFirst file i (k + 1) q →
      RecordFirst file i k q ⊎ ((q.file ≡ file) × (q.table ≡ i) × (q.entry ≡ k))
  record_or file i k q (inl less) = inl (inl less)
  record_or file i k q (inr same) = elim (same.1) [
    | inl less ↦ inl (inr (same.0, inl less))
    | inr entry ↦ elim (cases_lt q.entry k) [
      | inl less ↦ inl (inr (same.0, inr (entry.0, less)))
      | inr most ↦ inr (same.0, entry.0, (let e : q.entry ≡ k = omega (arith, most, entry.1) in e))
    ]
  ]

  record_later : (file i k : ℕ) (q : RecordId) → RecordFirst file i k q → RecordFirst file i (k + 1) q
  record_later file i k q (inl less) = inl less
  record_later file i k q (inr same) = elim (same.1) [
    | inl less ↦ inr (same.0, inl less)
    | inr entry ↦ inr (same.0, inr (entry.0, (let e : q.entry < k + 1 = omega (arith, entry.1) in e)))
  ]

  same_record : (q r : RecordId) → IsRecord files q → IsRecord files r → q.file ≡ r.file → q.table ≡ r.table → q.entry ≡ r.entry → q ≡ r
  same_record q r is is' file table entry =
      let about : q.section ≡ r.section =
      is.section_is ∙ ap (λ (f : ℕ). sh_info (file_at files f) q.table) file ∙ ap (sh_info (file_at files r.file)) table
      ∙ sym is'.section_is in
      let made : ℕ → ℕ → ℕ → ℕ → RecordId = λ f t e s. record { file = f; table = t; entry = e; section = s } in
      ap (λ (f : ℕ). made f q.table q.entry q.section) file ∙ ap (λ (t : ℕ). made r.file t q.entry q.section) table
      ∙ ap (λ (e : ℕ). made r.file r.table e q.section) entry ∙ ap (made r.file r.table r.entry) about

  -- ---- one field more

  pub field_more : (r : RecordId) (kind : Kind) (old new : ℕ → ℕ) → AreSound → IsDataField files r kind →
      Puts old (field_address files span text r) (field_bytes files span text r kind) new →
      AreFilled files span text r.file r.table r.entry old → AreFilled files span text r.file r.table (r.entry + 1) new
  field_more r kind old new sound is puts before =
      let stored = home_stored r kind sound is in
      record {
        fields = λ q kind' is' first. elim (record_or r.file r.table r.entry q first) [
          | inl earlier ↦ λ n within. (
              let a = field_address files span text q + n in
              puts.outside a (λ covers. fields_beside q r kind' kind a sound is' is earlier
              (record { from = omega arith; below = omega (arith, within) }) covers)
              ∙ before.fields q kind' is' earlier n within)
          | inr this ↦ (
              let same = same_record q r is'.there is.there this.0 this.1 this.2 in
              let P : RecordId → Type 0 = λ p. kind_numbered (rela_of (file_at files p.file) p.table p.entry).kind ≡ Some kind' in
              let both : Some kind ≡ Some kind' = sym is.kind_is ∙ subst P same is'.kind_is in
              let kinds : kind ≡ kind' = cc in
              let Q : RecordId → Type 0 = λ p. HoldsBytes new (field_address files span text p) (field_bytes files span text p kind') in
              let R : Kind → Type 0 = λ l. HoldsBytes new (field_address files span text r) (field_bytes files span text r l) in
              subst Q (sym same) (subst R kinds puts.inside))
        ];
        sections = λ s n stored' within free. (
            let a = section_start files span s + n in
            puts.outside a (λ covers. (
            let there = in_home r kind a sound is covers in
            let same = one_stored files span s (home r) a sound.whole stored' stored
            (record { from = omega arith; below = omega (arith, within) }) there in
            let at = field_at r kind sound is in
            let long = field_long r kind in
            let start : section_start files span s ≡ section_start files span (home r) = ap (section_start files span) same in
            free r kind is (inr (refl, inr (refl, omega arith))) (record {
              file_is = sym (ap (λ (t : SectionId). t.file) same);
              section_is = sym (ap (λ (t : SectionId). t.section) same);
              covers = record {
                from = omega (arith, at, start, covers.from);
                below = omega (arith, at, start, long, covers.below);
              };
            })))
            ∙ before.sections s n stored' within
            (λ q kind' is' first has. free q kind' is' (record_later r.file r.table r.entry q first) has));
        slots = λ h m s is' n within. (
            let a = slot_place files span h m + n in
            let long = length-bytes_low_first 0 8 (symbol_address files span text s.file s.symbol) in
            puts.outside a (λ covers. slot_beside files span h m a s (home r) sound.whole is' stored
            (record { from = omega arith; below = omega (arith, within, long) }) (in_home r kind a sound is covers))
            ∙ before.slots h m s is' n within);
        zeros = λ a none free. puts.outside a (λ covers. none (home r) stored (in_home r kind a sound is covers))
            ∙ before.zeros a none free;
      }

  -- the same of another place before which the same fields come
  filled_move : (file i k file' i' k' : ℕ) (byte : ℕ → ℕ) →
      ((q : RecordId) (kind : Kind) → IsDataField files q kind → RecordFirst file' i' k' q → RecordFirst file i k q) →
      ((q : RecordId) (kind : Kind) → IsDataField files q kind → RecordFirst file i k q → RecordFirst file' i' k' q) →
      AreFilled files span text file i k byte → AreFilled files span text file' i' k' byte
  filled_move file i k file' i' k' byte back on before = record {
    fields = λ q kind is first. before.fields q kind is (back q kind is first);
    sections = λ s n stored within free. before.sections s n stored within (λ q kind is first has. free q kind is (on q kind is first) has);
    slots = before.slots;
    zeros = before.zeros;
  }

  pub field_skip : (r : RecordId) (byte : ℕ → ℕ) → IsRecord files r → ((kind : Kind) → IsDataField files r kind → ⊥) →
      AreFilled files span text r.file r.table r.entry byte → AreFilled files span text r.file r.table (r.entry + 1) byte
  field_skip r byte is none before =
      filled_move r.file r.table r.entry r.file r.table (r.entry + 1) byte
      (λ q kind is' first. elim (record_or r.file r.table r.entry q first) [
        | inl earlier ↦ earlier
        | inr this ↦ absurd (none kind (subst (λ (p : RecordId). IsDataField files p kind)
            (same_record q r is'.there is this.0 this.1 this.2) is'))
      ]) (λ q kind is' first. record_later r.file r.table r.entry q first) before

  in_table : (file i : ℕ) (q : RecordId) → IsRecord files q → RecordFirst file (i + 1) 0 q →
      RecordFirst file i (record_count (file_at files file) i) q
  in_table file i q is (inl less) = inl less
  in_table file i q is (inr same) = elim (same.1) [
    | inl less ↦ elim (cases_lt q.table i) [
      | inl before ↦ inr (same.0, inl before)
      | inr most ↦ (
          let table : q.table ≡ i = omega (arith, less, most) in
          let few : q.entry < record_count (file_at files file) i =
          subst (λ (f : ℕ). q.entry < record_count (file_at files f) i) same.0
          (subst (λ (t : ℕ). q.entry < record_count (file_at files q.file) t) table is.within) in
          inr (same.0, inr (table, few)))
    ]
    | inr entry ↦ absurd (omega (arith, entry.1))
  ]

  next_table : (file i : ℕ) (q : RecordId) → RecordFirst file i (record_count (file_at files file) i) q → RecordFirst file (i + 1) 0 q
  next_table file i q (inl less) = inl less
  next_table file i q (inr same) = elim (same.1) [
    | inl less ↦ inr (same.0, inl (let e : q.table < i + 1 = omega (arith, less) in e))
    | inr entry ↦ inr (same.0, inl (let e : q.table < i + 1 = omega (arith, entry.0) in e))
  ]

  pub field_table : (file i : ℕ) (byte : ℕ → ℕ) → AreFilled files span text file i (record_count (file_at files file) i) byte →
      AreFilled files span text file (i + 1) 0 byte
  field_table file i byte before =
      filled_move file i (record_count (file_at files file) i) file (i + 1) 0 byte (λ q kind is first. in_table file i q is.there first)
      (λ q kind is first. next_table file i q first) before

  in_file : (file : ℕ) (q : RecordId) → IsRecord files q → RecordFirst (file + 1) 0 0 q →
      RecordFirst file (e_shnum (file_at files file)) 0 q
  in_file file q is (inl less) = elim (cases_lt q.file file) [
    | inl before ↦ inl before
    | inr most ↦ (
        let same : q.file ≡ file = omega (arith, less, most) in
        inr (same, inl (subst (λ (f : ℕ). q.table < e_shnum (file_at files f)) same is.table_in)))
  ]
  in_file file q is (inr same) = elim (same.1) [
    | inl less ↦ absurd (omega (arith, less))
    | inr entry ↦ absurd (omega (arith, entry.1))
  ]

  next_file : (file : ℕ) (q : RecordId) → RecordFirst file (e_shnum (file_at files file)) 0 q → RecordFirst (file + 1) 0 0 q
  next_file file q (inl less) = inl (omega (arith, less))
  next_file file q (inr same) = inl (omega (arith, same.0))

  pub field_file : (file : ℕ) (byte : ℕ → ℕ) → AreFilled files span text file (e_shnum (file_at files file)) 0 byte →
      AreFilled files span text (file + 1) 0 0 byte
  field_file file byte before =
      filled_move file (e_shnum (file_at files file)) 0 (file + 1) 0 0 byte (λ q kind is first. in_file file q is.there first)
      (λ q kind is first. next_file file q first) before

  none_first : (q : RecordId) → RecordFirst 0 0 0 q → ⊥
  none_first q (inl less) = omega (arith, less)
  none_first q (inr same) = elim (same.1) [
    | inl less ↦ omega (arith, less)
    | inr entry ↦ omega (arith, entry.1)
  ]

  pub filled_none : (byte : ℕ → ℕ) → AreSlotted files span text (group_count files span) 0 byte → AreFilled files span text 0 0 0 byte
  filled_none byte are = record {
    fields = λ q kind is first. absurd (none_first q first);
    sections = λ s n stored within free. are.sections s n stored within;
    slots = λ h m s is. are.slots h m s is (inl is.group_in);
    zeros = λ a none free. are.zeros a none (λ h m s is first covers. free h m s is covers);
  }

  pub filled_all : (byte : ℕ → ℕ) → AreFilled files span text (length files) 0 0 byte → HoldsData files span text byte
  filled_all byte are = record {
    fields = λ r kind is. are.fields r kind is (inl is.there.file_in);
    sections = λ s k stored within free. are.sections s k stored within (λ r kind is first has. free r kind is has);
    slots = are.slots;
    zeros = λ a free. are.zeros a free.sections free.slots;
  }
