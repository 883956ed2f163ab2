-- What fills bytes of a text section: fields of records, words behind calls that can be used, and accesses of pairs. No two have a byte in
-- common, where no record is refused.
use Rattle.std.proofs.Common.{ℕ, ◌≡◌, ◌<◌, ◌≤◌, ◌+◌, ◌-◌, ◌%◌, ◌⊎◌, ◌&&◌, inl, inr, true, false, eqb, ltb, max, min, List, Some, None, slice_get, sym, ap, ◌∙◌, subst, refl, arith}
use Rattle.std.specs.List.{list_any}
use Rattle.std.proofs.lemmas.Bool.{cases_lt}
use Rattle.std.proofs.lemmas.Bool.Decides.{nat_tests}
use Rattle.ppc_bytes.specs.Bytes.{number_at}
use Rattle.elf64_records.specs.Records.{rela_of}
use Rattle.elf64_records.specs.Sections.{section_bytes}
use Rattle.object_set.specs.declared.places.RecordId.{RecordId}
use Rattle.object_set.specs.declared.places.SectionId.{SectionId}
use Rattle.object_set.specs.Files.{file_at}
use Rattle.object_set.specs.Refusals.{set_refusal}
use Rattle.object_set.specs.Sections.{is_text}
use Rattle.object_set.specs.Walks.{IsRecord}
use Rattle.reloc_fields.specs.declared.kind.Kind.{Kind}
use Rattle.reloc_fields.specs.Table.{line_of}
use Rattle.symbol_table.specs.Fields.{kind_numbered, width_in, field_of, fields_of, meets, comes_before}
use Rattle.symbol_table.specs.Records.{records_refusal}
use Rattle.symbol_table.specs.Text.{text_sections, text_index}
use Rattle.symbol_table.specs.laws.Records.{fields_apart}
use Rattle.symbol_table.specs.laws.Sections.{record_about}
use Rattle.symbol_table.specs.laws.Text.{text_index_found}
use Rattle.call_sites.specs.laws.SiteFacts.{IsSlot}
use Rattle.toc_rewrite.proofs.SoundRecords.{sound_field}
use Rattle.pcrel_rewrite.specs.Pairs.{IsPair}
use Rattle.pcrel_rewrite.specs.laws.Pairs.{load_sound, pairs_apart, record_spared, tail_word}

-- so many bytes from one offset on, and so many from another
abbrev pub Ranges : ℕ → ℕ → ℕ → ℕ → Type 0
Ranges one width other count = (one + width ≤ other) ⊎ (other + count ≤ one)

pub ranges_back : (one width other count : ℕ) → Ranges one width other count → Ranges other count one width
ranges_back one width other count (inl before) = inr before
ranges_back one width other count (inr behind) = inl behind

-- parts of ranges that are apart
pub ranges_part : (one width other count a m b n : ℕ) → Ranges one width other count → one ≤ a → a + m ≤ one + width →
    other ≤ b → b + n ≤ other + count → Ranges a m b n
ranges_part one width other count a m b n (inl before) low high low' high' = inl (omega (arith, before, low, high, low', high'))
ranges_part one width other count a m b n (inr behind) low high low' high' = inr (omega (arith, behind, low, high, low', high'))

-- a field that doesn't meet some bytes is apart from them
unmet : (own section start width from count : ℕ) → own ≡ section → 0 < width → 0 < count →
    (eqb own section && ltb (max start from) (min (start + width) (from + count))) ≡ false → Ranges start width from count
unmet own section start width from count same some some_too none =
    elim (cases_lt from (start + width)) [
      | inl less ↦ inr (grind (arith, nat_tests, none))
      | inr most ↦ inl most
    ]

module _ (files : List (List ℕ)) where
  -- where in its section the field of a record begins
  abbrev pub begin_of : RecordId → ℕ
  begin_of r = (rela_of (file_at files r.file) r.table r.entry).offset

  -- a record in text that fills bytes
  pub record IsField (r : RecordId) (kind : Kind) : Type 0 where
    pub here : IsRecord files r
    pub text : is_text (file_at files r.file) r.section ≡ true
    pub known : kind_numbered (rela_of (file_at files r.file) r.table r.entry).kind ≡ Some kind
    pub fills : 0 < (line_of kind).width

  -- a word behind a call
  pub record IsFree (s : SectionId) (call : ℕ) : Type 0 where
    pub slot : IsSlot s.file (file_at files s.file) s.section call
    pub whole : call % 4 ≡ 0

  abbrev pub own_section : RecordId → SectionId
  own_section r = record { file = r.file; section = r.section }

  width_is : (r : RecordId) (kind : Kind) (b : List ℕ) → IsField r kind → file_at files r.file ≡ b →
      (field_of b r).width ≡ (line_of kind).width
  width_is r kind b is same = ap (λ (l : List ℕ). (field_of l r).width) (sym same) ∙ ap width_in is.known

  start_is : (r : RecordId) (b : List ℕ) → file_at files r.file ≡ b → (field_of b r).start ≡ begin_of r
  start_is r b same = ap (λ (l : List ℕ). (field_of l r).start) (sym same)

  same_record : (q r : RecordId) → q.file ≡ r.file → q.table ≡ r.table → q.entry ≡ r.entry → q.section ≡ r.section → q ≡ r
  same_record q r file table entry section =
      ap (λ (n : ℕ). record { file = n; table = q.table; entry = q.entry; section = q.section }) file
      ∙ ap (λ (n : ℕ). record { file = r.file; table = n; entry = q.entry; section = q.section }) table
      ∙ ap (λ (n : ℕ). record { file = r.file; table = r.table; entry = n; section = q.section }) entry
      ∙ ap (λ (n : ℕ). record { file = r.file; table = r.table; entry = r.entry; section = n }) section

  -- two records of one file, by which of them comes before
  order : (q r : RecordId) → ((q.table ≡ r.table) → (q.entry ≡ r.entry) → ⊥) →
      (comes_before q r ≡ true) ⊎ (comes_before r q ≡ true)
  order q r other =
      elim (cases_lt q.table r.table) [
        | inl less ↦ inl (grind (arith, nat_tests, less))
        | inr most ↦ elim (cases_lt r.table q.table) [
          | inl less ↦ inr (grind (arith, nat_tests, less))
          | inr least ↦ (
              let same : q.table ≡ r.table = omega (arith, most, least) in
              elim (cases_lt q.entry r.entry) [
                | inl less ↦ inl (grind (arith, nat_tests, same, less))
                | inr up ↦ elim (cases_lt r.entry q.entry) [
                  | inl less ↦ inr (grind (arith, nat_tests, same, less))
                  | inr down ↦ absurd (other same (omega (arith, up, down)))
                ]
              ])
        ]
      ]

  module _ (whole : set_refusal files ≡ None) (none : records_refusal files ≡ None) where
    in_order : (q r : RecordId) (k l : Kind) → IsField q k → IsField r l → q.file ≡ r.file → q.section ≡ r.section →
        comes_before q r ≡ true → Ranges (begin_of q) (line_of k).width (begin_of r) (line_of l).width
    in_order q r k l one other file section before =
        let b = file_at files r.file in
        let same : file_at files q.file ≡ b = ap (file_at files) file in
        let sound = sound_field files r none other.here l other.known other.fills in
        let width = width_is q k b one same in
        let width_too = width_is r l b other refl in
        let start = start_is q b same in
        let fills = one.fills in
        let fills_too = other.fills in
        elim (fields_apart files q r sound.apart one.here file section before (omega (arith, width, fills))
        (omega (arith, width_too, fills_too))) [
          | inl h ↦ inl (omega (arith, h, width, start))
          | inr h ↦ inr (omega (arith, h, width_too, start))
        ]

    -- fields of two records of one section
    pub two_fields : (q r : RecordId) (k l : Kind) → IsField q k → IsField r l → q.file ≡ r.file → q.section ≡ r.section →
        (q ≡ r → ⊥) → Ranges (begin_of q) (line_of k).width (begin_of r) (line_of l).width
    two_fields q r k l one other file section differ =
        elim (order q r (λ table entry. differ (same_record q r file table entry section))) [
          | inl before ↦ in_order q r k l one other file section before
          | inr behind ↦ ranges_back (begin_of r) (line_of l).width (begin_of q) (line_of k).width
              (in_order r q l k other one (sym file) (sym section) behind)
        ]

    differ_by : (m n : ℕ) → (m ≡ n) ⊎ (m ≡ n → ⊥)
    differ_by m n =
        elim (cases_lt m n) [
          | inl less ↦ inr (λ same. omega (arith, less, same))
          | inr most ↦ elim (cases_lt n m) [
            | inl less ↦ inr (λ same. omega (arith, less, same))
            | inr least ↦ inl (omega (arith, most, least))
          ]
        ]

    clash : (one width count : ℕ) → 0 < width → 0 < count → Ranges one width one count → ⊥
    clash one width count some some_too (inl before) = omega (arith, some, before)
    clash one width count some some_too (inr behind) = omega (arith, some_too, behind)

    not_two : (q r : RecordId) (k l : Kind) → IsField q k → IsField r l → q.file ≡ r.file → q.section ≡ r.section →
        begin_of q ≡ begin_of r → (q ≡ r → ⊥) → ⊥
    not_two q r k l one other file section begin differ =
        clash (begin_of r) (line_of k).width (line_of l).width one.fills other.fills
        (subst (λ (n : ℕ). Ranges n (line_of k).width (begin_of r) (line_of l).width) begin
        (two_fields q r k l one other file section differ))

    -- at a place of a section one field begins
    pub one_field : (q r : RecordId) (k l : Kind) → IsField q k → IsField r l → q.file ≡ r.file → q.section ≡ r.section →
        begin_of q ≡ begin_of r → q ≡ r
    one_field q r k l one other file section begin =
        elim (differ_by q.table r.table) [
          | inl table ↦ elim (differ_by q.entry r.entry) [
            | inl entry ↦ same_record q r file table entry section
            | inr differs ↦ absurd (not_two q r k l one other file section begin (λ same. differs (ap (λ (x : RecordId). x.entry) same)))
          ]
          | inr differs ↦ absurd (not_two q r k l one other file section begin (λ same. differs (ap (λ (x : RecordId). x.table) same)))
        ]

    -- a field, and bytes of its section that no field meets
    spared : (s : SectionId) (from count : ℕ) (r : RecordId) (k : Kind) → IsField r k → r.file ≡ s.file → r.section ≡ s.section →
        0 < count → list_any (meets s.section from count) (fields_of s.file (file_at files s.file)) ≡ false →
        Ranges (begin_of r) (line_of k).width from count
    spared s from count r k is file section some none_met =
        let b = file_at files s.file in
        let same : file_at files r.file ≡ b = ap (file_at files) file in
        let met = record_spared files s.file r (meets s.section from count) is.here file none_met in
        let width = width_is r k b is same in
        let start = start_is r b same in
        let fills = is.fills in
        elim (unmet r.section s.section (field_of b r).start (field_of b r).width from count section
        (omega (arith, width, fills)) some met) [
          | inl h ↦ inl (omega (arith, h, width, start))
          | inr h ↦ inr (omega (arith, h, start))
        ]

    -- a field and the access of a pair
    pub field_access : (s : SectionId) (head tail : ℕ) (r : RecordId) (k : Kind) → IsPair files s head tail → IsField r k →
        r.file ≡ s.file → r.section ≡ s.section → Ranges (begin_of r) (line_of k).width tail 4
    field_access s head tail r k pair is file section =
        let near = pair.words.near in
        let least = near.least in
        let count = tail + 4 - (head + 8) in
        elim (spared s (head + 8) count r k is file section (omega (arith, least)) pair.untouched) [
          | inl h ↦ inl (omega (arith, h, least))
          | inr h ↦ inr (omega (arith, h, least))
        ]

    -- a field and a word behind a call
    pub field_slot : (s : SectionId) (call : ℕ) (r : RecordId) (k : Kind) → IsFree s call → IsField r k → r.file ≡ s.file →
        r.section ≡ s.section → Ranges (begin_of r) (line_of k).width (call + 4) 4
    field_slot s call r k free is file section = spared s (call + 4) 4 r k is file section (omega arith) free.slot.free

    -- the head of a pair is an instruction
    pub head_whole : (s : SectionId) (head tail : ℕ) → IsPair files s head tail → head % 4 ≡ 0
    head_whole s head tail pair =
        let r = pair.load.record_id in
        let here = pair.load.here in
        let sound = load_sound files s head r none here in
        let own = ap (λ (f : ℕ). (rela_of (file_at files f) r.table r.entry).offset) here.file_is ∙ here.offset_is in
        ap (λ (n : ℕ). n % 4) (sym own) ∙ sound.aligned refl

    -- a word behind a call is a nop, and no access is
    pub slot_access : (s : SectionId) (call head tail : ℕ) → IsFree s call → IsPair files s head tail → Ranges (call + 4) 4 tail 4
    slot_access s call head tail free pair =
        let near = pair.words.near in
        let least = near.least in
        let fourth = near.aligned in
        let first = head_whole s head tail pair in
        let own = free.whole in
        elim (cases_lt (call + 4) tail) [
          | inl less ↦ inl (omega (arith, less, least, fourth, first, own))
          | inr most ↦ elim (cases_lt tail (call + 4)) [
            | inl less ↦ inr (omega (arith, less, least, fourth, first, own))
            | inr below ↦ (
                let same : call + 4 ≡ tail = omega (arith, most, below) in
                let high = tail_word (section_bytes (file_at files s.file) s.section) head tail pair.words in
                let word = ap (number_at 4 (section_bytes (file_at files s.file) s.section)) (sym same) ∙ free.slot.is_nop in
                absurd (omega (arith, high, word)))
          ]
        ]

    -- accesses of two pairs
    pub two_accesses : (s : SectionId) (head tail other end : ℕ) → IsPair files s head tail → IsPair files s other end → head < other →
        Ranges tail 4 end 4
    two_accesses s head tail other end one two less =
        let behind = pairs_apart files s head tail other end none one two less in
        let near = two.words.near in
        let least = near.least in
        inl (omega (arith, behind, least))

    section_same : (s u : SectionId) → Some s ≡ Some u → s ≡ u
    section_same s u both = cc

    -- text sections of one number are the same
    pub one_section : (q r : RecordId) → IsRecord files q → IsRecord files r → is_text (file_at files q.file) q.section ≡ true →
        is_text (file_at files r.file) r.section ≡ true →
        text_index files q.file q.section ≡ text_index files r.file r.section → own_section q ≡ own_section r
    one_section q r one other text text_too same =
        let about = record_about files q whole one in
        let about_too = record_about files r whole other in
        section_same (own_section q) (own_section r)
        (sym (text_index_found files q.file q.section one.file_in about.within text)
        ∙ ap (λ (n : ℕ). slice_get (text_sections files) n) same
        ∙ text_index_found files r.file r.section other.file_in about_too.within text_too)
