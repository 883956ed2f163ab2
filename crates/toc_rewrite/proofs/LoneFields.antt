-- Where no record is refused, nothing but its record has bytes of a slot that a record fills.
use Rattle.std.proofs.Common.{◌≡◌, ◌<◌, ◌≤◌, ◌⊎◌, inl, inr, ℕ, zero, suc, ◌+◌, Bool, true, false, not, ◌&&◌, eqb, ltb, max, min, List, Option, Some, None, sym, ap, subst, refl, arith}
use Rattle.std.specs.List.{list_any}
use Rattle.std.proofs.lemmas.Bool.{cases_lt}
use Rattle.std.proofs.lemmas.Bool.Decides.{nat_tests}
use Rattle.elf64_records.specs.FileHeader.{e_shnum}
use Rattle.elf64_records.specs.Records.{record_count}
use Rattle.object_set.specs.declared.places.RecordId.{RecordId}
use Rattle.object_set.specs.Files.{file_at}
use Rattle.object_set.specs.Walks.{items_in, record_walk, record_id, records_in, IsRecord}
use Rattle.reloc_fields.specs.declared.kind.Kind.{Kind}
use Rattle.reloc_fields.specs.declared.kind.Kind.TheVariants.{Addr64}
use Rattle.symbol_table.specs.Fields.{field_of, meets, width_in, comes_before, overlaps_earlier}
use Rattle.symbol_table.specs.Records.{records_refusal}
use Rattle.symbol_table.specs.laws.Records.{fields_apart}
use Rattle.toc_rewrite.specs.Records.{facts_of, kind_of}
use Rattle.toc_rewrite.specs.Folds.{is_same_record, fills_alone}
use Rattle.toc_rewrite.specs.laws.Entries.{entry_next, table_next}
use Rattle.toc_rewrite.proofs.SoundRecords.{sound_field}

module _ (test : RecordId → Bool) (file : ℕ) (b : List ℕ) where
  none_entries : (i n : ℕ) → ((k : ℕ) → k < n → test (record_id file b i k) ≡ false) → list_any test (records_in file b i n) ≡ false
  none_entries i zero each = refl
  none_entries i (suc n) each =
      entry_next test file b i n (none_entries i n (λ k less. each k (omega arith))) (each n (omega arith))

  pub none_tables : (n : ℕ) → ((i k : ℕ) → i < n → k < record_count b i → test (record_id file b i k) ≡ false) →
      list_any test (items_in record_walk file b n) ≡ false
  none_tables zero each = refl
  none_tables (suc n) each =
      table_next test file b n (none_tables n (λ i k less within. each i k (omega arith) within))
      (none_entries n (record_count b n) (λ k within. each n k (omega arith) within))

-- a field without bytes meets none
empty_case : (one other start width from : ℕ) → width ≡ 0 → (eqb one other && ltb (max start from) (min (start + width) (from + 8))) ≡ false
empty_case one other start width from none = grind (arith, nat_tests)

other_case : (one other start width from : ℕ) → eqb one other ≡ false →
    (eqb one other && ltb (max start from) (min (start + width) (from + 8))) ≡ false
other_case one other start width from differs = ap (λ (x : Bool). x && ltb (max start from) (min (start + width) (from + 8))) differs

apart_case : (one other start width from : ℕ) → (start + width ≤ from) ⊎ (from + 8 ≤ start) →
    (eqb one other && ltb (max start from) (min (start + width) (from + 8))) ≡ false
apart_case one other start width from (inl less) = grind (arith, nat_tests)
apart_case one other start width from (inr more) = grind (arith, nat_tests)

swapped : {A B : Type 0} → A ⊎ B → B ⊎ A
swapped (inl a) = inr a
swapped (inr b) = inl b

-- of two records of a file that aren't the same, one comes before the other
one_before : (q r : RecordId) → is_same_record q r ≡ false → (comes_before q r ≡ true) ⊎ (comes_before r q ≡ true)
one_before q r differ =
    elim (cases_lt q.table r.table) [
      | inl less ↦ inl (grind (arith, nat_tests))
      | inr most ↦ elim (cases_lt r.table q.table) [
        | inl less ↦ inr (grind (arith, nat_tests))
        | inr same ↦ elim (cases_lt q.entry r.entry) [
          | inl less ↦ inl (grind (arith, nat_tests))
          | inr after ↦ inr (grind (arith, nat_tests, differ))
        ]
      ]
    ]

module _ (files : List (List ℕ)) (none : records_refusal files ≡ None) where
  -- no earlier record's field has bytes of one that has some
  field_apart : (q : RecordId) (o : Option Kind) → IsRecord files q → kind_of files q ≡ o → 0 < width_in o →
      overlaps_earlier q.file (file_at files q.file) q ≡ false
  field_apart q None is known wide = absurd (omega arith)
  field_apart q (Some kind) is known wide = (sound_field files q none is kind known wide).apart

  module _ (r : RecordId) (is : IsRecord files r) (known : kind_of files r ≡ Some Addr64) where
    own_width : (field_of (file_at files r.file) r).width ≡ 8
    own_width = ap width_in known

    own_apart : overlaps_earlier r.file (file_at files r.file) r ≡ false
    own_apart = field_apart r (Some Addr64) is known (omega arith)

    ends_apart : (q : RecordId) → IsRecord files q → q.file ≡ r.file → file_at files q.file ≡ file_at files r.file → q.section ≡ r.section →
        (comes_before q r ≡ true) ⊎ (comes_before r q ≡ true) → 0 < (field_of (file_at files r.file) q).width →
        (let b = file_at files r.file in let f = field_of b q in
        (f.start + f.width ≤ (field_of b r).start) ⊎ ((field_of b r).start + 8 ≤ f.start))
    ends_apart q isq file same section (inl before) wide =
        let width = own_width in
        elim (fields_apart files q r own_apart isq file section before wide (omega (arith, width))) [
          | inl less ↦ inl less
          | inr more ↦ inr (omega (arith, more, width))
        ]
    ends_apart q isq file same section (inr after) wide =
        let width = own_width in
        let b = file_at files r.file in
        let apart = field_apart q (kind_of files q) isq refl
        (subst (λ (l : List ℕ). 0 < (field_of l q).width) (sym same) wide) in
        let here = fields_apart files r q apart is (sym file) (sym section) after
        (subst (λ (l : List ℕ). 0 < (field_of l r).width) (sym same) (omega (arith, width)))
        (subst (λ (l : List ℕ). 0 < (field_of l q).width) (sym same) wide) in
        let both = subst (λ (l : List ℕ). ((field_of l r).start + (field_of l r).width ≤ (field_of l q).start)
        ⊎ ((field_of l q).start + (field_of l q).width ≤ (field_of l r).start)) same here in
        elim both [
          | inl less ↦ inr (omega (arith, less, width))
          | inr more ↦ inl more
        ]

    meets_none : (q : RecordId) (section : Bool) → IsRecord files q → q.file ≡ r.file → file_at files q.file ≡ file_at files r.file →
        is_same_record q r ≡ false → eqb q.section r.section ≡ section →
        meets r.section (facts_of files r).offset 8 (field_of (file_at files r.file) q) ≡ false
    meets_none q false isq file same differ other =
        let f = field_of (file_at files r.file) q in
        other_case q.section r.section f.start f.width (facts_of files r).offset other
    meets_none q true isq file same differ section =
        let f = field_of (file_at files r.file) q in
        let from = (facts_of files r).offset in
        elim (cases_lt 0 f.width) [
          | inl wide ↦ apart_case q.section r.section f.start f.width from
              (ends_apart q isq file same (grind (arith, nat_tests, section)) (one_before q r differ) wide)
          | inr empty ↦ empty_case q.section r.section f.start f.width from (omega (arith, empty))
        ]

    lone_case : (i k : ℕ) (same : Bool) → i < e_shnum (file_at files r.file) → k < record_count (file_at files r.file) i →
        is_same_record (record_id r.file (file_at files r.file) i k) r ≡ same →
        (let b = file_at files r.file in let q = record_id r.file b i k in
        not same && meets r.section (facts_of files r).offset 8 (field_of b q)) ≡ false
    lone_case i k true table within is_same = refl
    lone_case i k false table within is_same =
        let b = file_at files r.file in
        let q = record_id r.file b i k in
        let isq : IsRecord files q = record { file_in = is.file_in; table_in = table; within = within; section_is = refl } in
        meets_none q (eqb q.section r.section) isq refl refl is_same refl

    -- an address is alone in its eight bytes
    pub address_alone : fills_alone files r ≡ true
    address_alone =
        let b = file_at files r.file in
        let test : RecordId → Bool = λ q. not (is_same_record q r) && meets r.section (facts_of files r).offset 8 (field_of b q) in
        ap not (none_tables test r.file b (e_shnum b)
        (λ i k table within. lone_case i k (is_same_record (record_id r.file b i k) r) table within refl))
