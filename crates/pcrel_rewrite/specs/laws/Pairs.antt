-- What recognised pairs have, where no record is refused.
use Rattle.std.proofs.Common.{◌≡◌, ◌<◌, ◌≤◌, ◌+◌, ◌-◌, ◌*◌, ◌/◌, ◌⊎◌, ◌&&◌, ◌||◌, inl, inr, ℕ, zero, suc, Bool, true, false, eqb, ltb, max, min, List, [], ◌∷◌, ◌++◌, length, None, Some, sym, ap, ◌∙◌, subst, refl, arith}
use Rattle.std.specs.List.{Contains, list_any, slice_index_or}
use Rattle.std.proofs.lemmas.Bool.{cases_lt}
use Rattle.std.proofs.lemmas.Bool.Decides.{nat_tests}
use Rattle.std.proofs.lemmas.List.Elements.{Contains-append_left, Contains-append_right, Contains-push}
use Rattle.std.proofs.lemmas.List.Folds.{list_any_at}
use Rattle.std.proofs.lemmas.List.{length-map, get_or-map}
use Rattle.ppc_bytes.specs.Bytes.{number_at}
use Rattle.elf64_records.specs.FileHeader.{e_shnum}
use Rattle.elf64_records.specs.Records.{record_count, rela_of}
use Rattle.elf64_records.specs.Sections.{section_bytes, sh_info}
use Rattle.object_set.specs.declared.places.RecordId.{RecordId}
use Rattle.object_set.specs.declared.places.SectionId.{SectionId}
use Rattle.object_set.specs.Files.{file_at}
use Rattle.object_set.specs.Walks.{IsRecord, items_in, record_walk, records_in, record_id}
use Rattle.power_insns.specs.declared.instruction.Insn.{Insn}
use Rattle.power_insns.specs.Operations.{operation_of}
use Rattle.power_insns.specs.Uses.{Reads}
use Rattle.prefixed_insns.specs.laws.ShortForms.{reads_base, short_words_are_high}
use Rattle.reloc_fields.specs.declared.kind.Kind.{Kind}
use Rattle.reloc_fields.specs.declared.kind.Kind.TheVariants.{GotPcrel34}
use Rattle.reloc_fields.specs.Table.{line_of}
use Rattle.symbol_table.specs.declared.fields.RecordField.{RecordField}
use Rattle.symbol_table.specs.Fields.{kind_numbered, width_in, field_of, fields_of, records_of, meets, comes_before}
use Rattle.symbol_table.specs.Records.{records_refusal}
use Rattle.symbol_table.specs.laws.Records.{IsSoundField, records_sound, fields_apart}
use Rattle.pcrel_rewrite.specs.declared.words.Uses.{Uses}
use Rattle.pcrel_rewrite.specs.Pairs.{IsRecordAt, IsPair, IsRecognised}
use Rattle.pcrel_rewrite.specs.TextPairs.{text_pair}
use Rattle.pcrel_rewrite.specs.Words.{IsAccess, ArePairWords, IsPassed}
use Rattle.pcrel_rewrite.specs.laws.Words.{one_insn, one_register}

-- the access reads the register that holds the address
address_read : (word address : ℕ) (uses : Uses) → 0 < address → (a : IsAccess word address uses) →
    Reads (operation_of a.access.insn) address
address_read word address uses some a =
    let base : 0 < a.access.form.base = let same = a.base_is in omega arith in
    subst (λ (r : ℕ). Reads (operation_of a.access.insn) r) a.base_is (reads_base a.access.insn a.access.form a.here.form_is base)

-- no access stands between the words of a pair with the same load
none_between : (bytes : List ℕ) (head tail other : ℕ) → ArePairWords bytes head tail → ArePairWords bytes head other → ¬ (tail < other)
none_between bytes head tail other p q = λ before.
    let near = p.near in
    let far = q.near in
    let k = (tail - (head + 8)) / 4 in
    let at : head + 8 + 4 * k ≡ tail = omega (arith, near.least, near.aligned) in
    let passed : IsPassed q.uses (number_at 4 bytes (head + 8 + 4 * k)) = q.between k (omega (arith, at, before)) in
    let here : IsPassed q.uses (number_at 4 bytes tail) = subst (λ (n : ℕ). IsPassed q.uses (number_at 4 bytes n)) at passed in
    let same : p.access.access.insn ≡ here.insn =
    one_insn p.access.access.insn here.insn (number_at 4 bytes tail) p.access.here.is here.is in
    let address : p.address ≡ q.address =
    one_register (number_at 4 bytes head) (number_at 4 bytes (head + 4)) p.address q.address p.loads q.loads in
    let own : q.uses.address ≡ q.address = ap (λ (u : Uses). u.address) q.access.uses_is in
    let reads : Reads (operation_of p.access.access.insn) p.address =
    address_read (number_at 4 bytes tail) p.address p.uses p.loads.some p.access in
    let there : Reads (operation_of here.insn) q.uses.address =
    subst (λ (r : ℕ). Reads (operation_of here.insn) r) (address ∙ sym own)
    (subst (λ (i : Insn). Reads (operation_of i) p.address) same reads) in
    here.passed.address.reads there

-- a load has one access
pub one_tail : (bytes : List ℕ) (head tail other : ℕ) → ArePairWords bytes head tail → ArePairWords bytes head other → tail ≡ other
one_tail bytes head tail other p q =
    elim (cases_lt tail other) [
      | inl less ↦ absurd (none_between bytes head tail other p q less)
      | inr most ↦ elim (cases_lt other tail) [
        | inl less ↦ absurd (none_between bytes head other tail q p less)
        | inr least ↦ omega arith
      ]
    ]

-- the word of the access is no nop
pub tail_word : (bytes : List ℕ) (head tail : ℕ) → ArePairWords bytes head tail → 0x80000000 ≤ number_at 4 bytes tail
tail_word bytes head tail p =
    let high = short_words_are_high p.access.access.insn p.access.access.form p.access.here.form_is in
    let is = p.access.here.is.word_is in
    omega (arith, high, is)

or_false : (p q : Bool) → (p || q) ≡ false → (p ≡ false) × (q ≡ false)
or_false true q none = cc
or_false false q none = (refl, none)

-- a record's field is one of its file's
record_among : (file : ℕ) (b : List ℕ) (i k n : ℕ) → k < n → Contains (records_in file b i n) (record_id file b i k)
record_among file b i k zero within = absurd (omega arith)
record_among file b i k (suc n) within =
    elim (cases_lt k n) [
      | inl less ↦ Contains-append_left (records_in file b i n) (record_id file b i n ∷ []) (record_id file b i k)
          (record_among file b i k n less)
      | inr most ↦ (
          let same : n ≡ k = omega arith in
          subst (λ (m : ℕ). Contains (records_in file b i n ++ record_id file b i n ∷ []) (record_id file b i m)) same
          (Contains-push (records_in file b i n) (record_id file b i n)))
    ]

records_among : (file : ℕ) (b : List ℕ) (i k n : ℕ) → i < n → k < record_count b i →
    Contains (items_in record_walk file b n) (record_id file b i k)
records_among file b i k zero table within = absurd (omega arith)
records_among file b i k (suc n) table within =
    let before = items_in record_walk file b n in
    let own = records_in file b n (record_count b n) in
    elim (cases_lt i n) [
      | inl less ↦ Contains-append_left before own (record_id file b i k) (records_among file b i k n less within)
      | inr most ↦ (
          let same : i ≡ n = omega arith in
          Contains-append_right before own (record_id file b i k)
          (subst (λ (m : ℕ). Contains (records_in file b m (record_count b m)) (record_id file b i k)) same
          (record_among file b i k (record_count b i) within)))
    ]

spared_case : (p : RecordField → Bool) (fields : List RecordField) (k : ℕ) (d : RecordField) (passes : Bool) → k < length fields →
    p (slice_index_or fields k d) ≡ passes → list_any p fields ≡ false → passes ≡ false
spared_case p fields k d false inside is none = refl
spared_case p fields k d true inside is none = let some = list_any_at p fields k d inside is in cc

-- what no field of a file does, that of none of its records does
pub record_spared : (files : List (List ℕ)) (file : ℕ) (r : RecordId) (p : RecordField → Bool) → IsRecord files r → r.file ≡ file →
    list_any p (fields_of file (file_at files file)) ≡ false → p (field_of (file_at files file) r) ≡ false
record_spared files file r p is own none =
    let b = file_at files file in
    let table : r.table < e_shnum b = subst (λ (f : ℕ). r.table < e_shnum (file_at files f)) own is.table_in in
    let within : r.entry < record_count b r.table = subst (λ (f : ℕ). r.entry < record_count (file_at files f) r.table) own is.within in
    let held = records_among file b r.table r.entry (e_shnum b) table within in
    let k : ℕ = held.0 in
    let q = record_id file b r.table r.entry in
    let inside : k < length (fields_of file b) = simp length-map held.1 in
    let at : slice_index_or (fields_of file b) k (field_of b q) ≡ field_of b q =
    get_or-map (field_of b) (records_of file b) k q (field_of b q) held.1 ∙ ap (field_of b) held.2 in
    let same : q ≡ r =
    ap (λ (f : ℕ). record_id f b r.table r.entry) (sym own)
    ∙ ap (λ (s : ℕ). record { file = r.file; table = r.table; entry = r.entry; section = s })
    (ap (λ (f : ℕ). sh_info (file_at files f) r.table) (sym own) ∙ sym is.section_is) in
    spared_case p (fields_of file b) k (field_of b q) (p (field_of b r)) inside
    (ap p (at ∙ ap (field_of b) same)) none

-- a field that begins in a range, and has bytes, meets it
begins_inside : (own section start width from count : ℕ) → own ≡ section → 0 < width → from ≤ start → start < from + count →
    (eqb own section && ltb (max start from) (min (start + width) (from + count))) ≡ true
begins_inside own section start width from count same some low high = grind (arith, nat_tests)

-- records of one section, at different places, are different ones
before_or_behind : (q r : RecordId) → ((q.table ≡ r.table) → (q.entry ≡ r.entry) → ⊥) →
    (comes_before q r ≡ true) ⊎ (comes_before r q ≡ true)
before_or_behind q r other =
    elim (cases_lt q.table r.table) [
      | inl less ↦ inl (grind (arith, nat_tests))
      | inr most ↦ elim (cases_lt r.table q.table) [
        | inl less ↦ inr (grind (arith, nat_tests))
        | inr least ↦ (
            let same : q.table ≡ r.table = omega arith in
            elim (cases_lt q.entry r.entry) [
              | inl less ↦ inl (grind (arith, nat_tests))
              | inr up ↦ elim (cases_lt r.entry q.entry) [
                | inl less ↦ inr (grind (arith, nat_tests))
                | inr down ↦ absurd (other same (omega arith))
              ]
            ])
      ]
    ]

-- a number is that of a load from a slot
got_kind : (number : ℕ) → number ≡ (line_of GotPcrel34).number → kind_numbered number ≡ Some GotPcrel34
unfolding kind_numbered
got_kind number is = subst (λ (n : ℕ). kind_numbered n ≡ Some GotPcrel34) (sym is) refl

kind_is : (k l : Kind) → Some k ≡ Some l → k ≡ l
kind_is k l same = cc

-- the field of a load from a slot
record IsLoadField (files : List (List ℕ)) (s : SectionId) (at : ℕ) (r : RecordId) : Type 0 where
  start : (field_of (file_at files s.file) r).start ≡ at
  width : (field_of (file_at files s.file) r).width ≡ 8

load_field : (files : List (List ℕ)) (s : SectionId) (at : ℕ) (r : RecordId) → IsRecordAt files GotPcrel34 s at r → IsLoadField files s at r
load_field files s at r here = record {
  start = here.offset_is;
  width = ap width_in (got_kind (rela_of (file_at files s.file) r.table r.entry).kind here.kind_is);
}

-- a load from a slot can be linked
pub load_sound : (files : List (List ℕ)) (s : SectionId) (at : ℕ) (r : RecordId) → records_refusal files ≡ None →
    IsRecordAt files GotPcrel34 s at r → IsSoundField files r GotPcrel34
load_sound files s at r whole here =
    let is = records_sound files r whole here.record_in in
    let number : (rela_of (file_at files r.file) r.table r.entry).kind ≡ (line_of GotPcrel34).number =
    subst (λ (f : ℕ). (rela_of (file_at files f) r.table r.entry).kind ≡ (line_of GotPcrel34).number) (sym here.file_is) here.kind_is in
    let same : is.kind ≡ GotPcrel34 =
    kind_is is.kind GotPcrel34 (sym is.kind_is ∙ got_kind (rela_of (file_at files r.file) r.table r.entry).kind number) in
    subst (λ (k : Kind). 0 < (line_of k).width → IsSoundField files r k) same is.field (omega arith)

-- two loads of a section, of which one record comes first, are apart
loads_in_order : (files : List (List ℕ)) (s : SectionId) (p t : ℕ) (q r : RecordId) → records_refusal files ≡ None →
    IsRecordAt files GotPcrel34 s p q → IsRecordAt files GotPcrel34 s t r → comes_before q r ≡ true → (p + 8 ≤ t) ⊎ (t + 8 ≤ p)
loads_in_order files s p t q r whole first next before =
    let b = file_at files s.file in
    let c = file_at files r.file in
    let same : b ≡ c = ap (file_at files) (sym next.file_is) in
    let f = load_field files s p q first in
    let g = load_field files s t r next in
    let some : 0 < (field_of c q).width = subst (λ (l : List ℕ). 0 < (field_of l q).width) same (omega (arith, f.width)) in
    let some_too : 0 < (field_of c r).width = subst (λ (l : List ℕ). 0 < (field_of l r).width) same (omega (arith, g.width)) in
    let apart = fields_apart files q r (load_sound files s t r whole next).apart first.record_in (first.file_is ∙ sym next.file_is)
    (first.section_is ∙ sym next.section_is) before some some_too in
    let here : ((field_of b q).start + (field_of b q).width ≤ (field_of b r).start)
    ⊎ ((field_of b r).start + (field_of b r).width ≤ (field_of b q).start) =
    subst (λ (l : List ℕ). ((field_of l q).start + (field_of l q).width ≤ (field_of l r).start)
    ⊎ ((field_of l r).start + (field_of l r).width ≤ (field_of l q).start)) (sym same) apart in
    elim here [ inl h ↦ inl (omega (arith, h, f.start, f.width, g.start)) | inr h ↦ inr (omega (arith, h, f.start, g.start, g.width)) ]

-- two loads at different places are apart
loads_apart : (files : List (List ℕ)) (s : SectionId) (p t : ℕ) (q r : RecordId) → records_refusal files ≡ None →
    IsRecordAt files GotPcrel34 s p q → IsRecordAt files GotPcrel34 s t r → p < t → p + 8 ≤ t
loads_apart files s p t q r whole first next less =
    let b = file_at files s.file in
    let other : (q.table ≡ r.table) → (q.entry ≡ r.entry) → ⊥ = λ table entry.
    let here : (rela_of b q.table q.entry).offset ≡ (rela_of b r.table r.entry).offset =
    ap (λ (i : ℕ). (rela_of b i q.entry).offset) table ∙ ap (λ (k : ℕ). (rela_of b r.table k).offset) entry in
    let at = first.offset_is in
    let at_too = next.offset_is in
    let same : p ≡ t = sym at ∙ here ∙ at_too in
    omega arith in
    elim (before_or_behind q r other) [
      | inl before ↦ elim (loads_in_order files s p t q r whole first next before) [ inl h ↦ h | inr h ↦ absurd (omega arith) ]
      | inr behind ↦ elim (loads_in_order files s t p r q whole next first behind) [ inl h ↦ absurd (omega arith) | inr h ↦ h ]
    ]

-- two pairs of a section have no byte in common: the later one begins behind the end of the earlier one
pub pairs_apart : (files : List (List ℕ)) (s : SectionId) (head tail later end : ℕ) → records_refusal files ≡ None →
    IsPair files s head tail → IsPair files s later end → head < later → tail + 4 ≤ later
pairs_apart files s head tail later end whole p q less =
    let b = file_at files s.file in
    let r = q.load.record_id in
    let here = q.load.here in
    let f = load_field files s later r here in
    let behind : head + 8 ≤ later = loads_apart files s head later p.load.record_id r whole p.load.here here less in
    let spared = record_spared files s.file r (meets s.section (head + 8) (tail + 4 - (head + 8))) here.record_in here.file_is
    p.untouched in
    elim (cases_lt later (tail + 4)) [
      | inl inside ↦ (
          let near = p.words.near in
          let met = begins_inside r.section s.section (field_of b r).start (field_of b r).width (head + 8) (tail + 4 - (head + 8))
          here.section_is (omega (arith, f.width)) (omega (arith, f.start)) (omega (arith, f.start, near.least)) in
          cc)
      | inr past ↦ past
    ]

-- a smaller range is met by fewer fields
meets_less : (own section start width from count low size : ℕ) → low ≤ from → from + count ≤ low + size →
    (eqb own section && ltb (max start low) (min (start + width) (low + size))) ≡ false →
    (eqb own section && ltb (max start from) (min (start + width) (from + count))) ≡ false
meets_less own section start width from count low size above below none = grind (arith, nat_tests, none)

none_less : (section from count low size : ℕ) (fields : List RecordField) → low ≤ from → from + count ≤ low + size →
    list_any (meets section low size) fields ≡ false → list_any (meets section from count) fields ≡ false
none_less section from count low size [] above below none = refl
none_less section from count low size (f ∷ fs) above below none =
    let parts = or_false (meets section low size f) (list_any (meets section low size) fs) none in
    ap (λ (x : Bool). x || list_any (meets section from count) fs)
    (meets_less f.id.section section f.start f.width from count low size above below parts.0)
    ∙ none_less section from count low size fs above below parts.1

-- no field has bytes between the load and the end of the access
pub no_field_between : (files : List (List ℕ)) (s : SectionId) (head tail from count : ℕ) → IsPair files s head tail → head + 8 ≤ from →
    from + count ≤ tail + 4 → list_any (meets s.section from count) (fields_of s.file (file_at files s.file)) ≡ false
no_field_between files s head tail from count p above below =
    none_less s.section from count (head + 8) (tail + 4 - (head + 8)) (fields_of s.file (file_at files s.file)) above (omega arith)
    p.untouched

section_is : (s t : SectionId) → Some s ≡ Some t → s ≡ t
section_is s t same = cc

-- a place has one recognised pair
pub one_pair_at : (files : List (List ℕ)) (section head tail other : ℕ) → IsRecognised files (text_pair section head tail) →
    IsRecognised files (text_pair section head other) → tail ≡ other
one_pair_at files section head tail other p q =
    let same : q.place ≡ p.place = section_is q.place p.place (sym q.place_is ∙ p.place_is) in
    let words = subst (λ (s : SectionId). ArePairWords (section_bytes (file_at files s.file) s.section) head other) same q.is.words in
    one_tail (section_bytes (file_at files p.place.file) p.place.section) head tail other p.is.words words
