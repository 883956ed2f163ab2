-- Fields of which each ends before the next one have no bytes in common.
use Rattle.std.proofs.Common.{◌≡◌, ◌<◌, ◌≤◌, ◌⊎◌, inl, inr, ℕ, zero, suc, ◌+◌, ◌-◌, Bool, true, false, ◌&&◌, ◌||◌, eqb, ltb, max, min, List, length, sym, ap, ◌∙◌, subst, refl, arith}
use Rattle.std.specs.List.{list_any, slice_index_or}
use Rattle.std.specs.List.Sorted.{IsPermutation}
use Rattle.std.proofs.lemmas.Bool.{cases_lt}
use Rattle.std.proofs.lemmas.Bool.Decides.{nat_tests}
use Rattle.std.proofs.lemmas.List.Folds.{list_any_none, Any-from_list_any}
use Rattle.std.proofs.lemmas.List.Sorted.{list_any-IsPermutation}
use Rattle.elf64_records.specs.FileHeader.{e_shnum}
use Rattle.object_set.specs.declared.places.RecordId.{RecordId}
use Rattle.object_set.specs.Files.{file_at}
use Rattle.object_set.specs.Walks.{IsRecord}
use Rattle.object_set.specs.laws.Rows.{index_read}
use Rattle.elf64_records.specs.Sections.{sh_info}
use Rattle.symbol_table.specs.declared.fields.RecordField.{RecordField}
use Rattle.symbol_table.specs.Fields.{field_of, records_of, fields_of, meets, comes_before, overlaps_earlier}
use Rattle.symbol_table.specs.inside.Fields.{EndsBefore, AreApart}
use Rattle.symbol_table.specs.laws.FilteredLists.{list_any-filter}
use Rattle.symbol_table.specs.laws.Records.{record_passes, any_mapped}

-- of three fields, of which each ends before the next one, the first ends before the last
ends_on : (f g h : RecordField) → EndsBefore f g → EndsBefore g h → EndsBefore f h
ends_on f g h (inl less) (inl more) = inl (omega arith)
ends_on f g h (inl less) (inr same) = inl (omega (arith, same.0))
ends_on f g h (inr same) (inl more) = inl (omega (arith, same.0))
ends_on f g h (inr same) (inr more) = inr (same.0 ∙ more.0, omega (arith, same.1, more.1))

-- a field that ends before a range has no bytes of it
ended : (own start width section from count : ℕ) → (own < section) ⊎ ((own ≡ section) × (start + width ≤ from)) →
    (eqb own section && ltb (max start from) (min (start + width) (from + count))) ≡ false
ended own start width section from count (inl less) = grind (arith, nat_tests, less)
ended own start width section from count (inr same) =
    let end = same.1 in
    grind (arith, nat_tests, end)

-- nor has one that begins behind it
begun : (own start width section from count : ℕ) → (section < own) ⊎ ((section ≡ own) × (from + count ≤ start)) →
    (eqb own section && ltb (max start from) (min (start + width) (from + count))) ≡ false
begun own start width section from count (inl less) = grind (arith, nat_tests, less)
begun own start width section from count (inr same) =
    let end = same.1 in
    grind (arith, nat_tests, end)

-- a record isn't earlier than itself
not_earlier : (table entry own_table own_entry : ℕ) → table ≡ own_table → entry ≡ own_entry →
    (ltb table own_table || (eqb table own_table && ltb entry own_entry)) ≡ false
not_earlier table entry own_table own_entry same same_too = grind (arith, nat_tests)

both_false : (p q : Bool) → p ≡ false → (p && q) ≡ false
both_false true q is = cc
both_false false q is = refl

last_false : (p q : Bool) → q ≡ false → (p && q) ≡ false
last_false true q is = is
last_false false q is = refl

module _ (items : List RecordField) (apart : AreApart items) where
  -- and so does each field before all later ones
  ends_later : (n i j : ℕ) (d : RecordField) → j ≡ i + n + 1 → j < length items →
      EndsBefore (slice_index_or items i d) (slice_index_or items j d)
  ends_later zero i j d is within =
      let next : j ≡ i + 1 = omega arith in
      subst (λ (m : ℕ). EndsBefore (slice_index_or items i d) (slice_index_or items m d)) (sym next) (apart i d (omega arith))
  ends_later (suc n) i j d is within =
      let next : j ≡ i + n + 1 + 1 = omega arith in
      subst (λ (m : ℕ). EndsBefore (slice_index_or items i d) (slice_index_or items m d)) (sym next)
      (ends_on (slice_index_or items i d) (slice_index_or items (i + n + 1) d) (slice_index_or items (i + n + 1 + 1) d)
      (ends_later n i (i + n + 1) d refl (omega arith)) (apart (i + n + 1) d (omega arith)))

  -- the field of a record, where it stands among them
  pub record Stands (field : RecordField) : Type 0 where
    place : ℕ
    own : RecordField
    within : place < length items
    is : own ≡ slice_index_or items place own
    table : own.id.table ≡ field.id.table
    entry : own.id.entry ≡ field.id.entry
    section : own.id.section ≡ field.id.section
    start : own.start ≡ field.start
    width : own.width ≡ field.width

  module _ (field : RecordField) (s : Stands field) where
    abbrev pub own_test : RecordField → Bool
    own_test f = meets field.id.section field.start field.width f && comes_before f.id field.id

    -- no field has bytes of it and is an earlier record's
    none_at : (k : ℕ) (d : RecordField) → k < length items → own_test (slice_index_or items k d) ≡ false
    none_at k d within =
        let x = slice_index_or items k d in
        let here : slice_index_or items s.place d ≡ s.own = index_read items s.place s.own d s.within s.is in
        elim (cases_lt k s.place) [
          | inl less ↦ (
              let ends = subst (EndsBefore x) here (ends_later (s.place - k - 1) k s.place d (omega arith) s.within) in
              let ends_own : EndsBefore x field = elim ends [
                | inl before ↦ inl (omega (arith, before, s.section))
                | inr same ↦ inr (same.0 ∙ s.section, omega (arith, same.1, s.start))
              ] in
              both_false (meets field.id.section field.start field.width x) (comes_before x.id field.id)
              (ended x.id.section x.start x.width field.id.section field.start field.width ends_own))
          | inr most ↦ elim (cases_lt s.place k) [
            | inl less ↦ (
                let ends = subst (λ (f : RecordField). EndsBefore f x) here
                (ends_later (k - s.place - 1) s.place k d (omega arith) within) in
                let ends_own : EndsBefore field x = elim ends [
                  | inl before ↦ inl (omega (arith, before, s.section))
                  | inr same ↦ inr (sym s.section ∙ same.0, omega (arith, same.1, s.start, s.width))
                ] in
                both_false (meets field.id.section field.start field.width x) (comes_before x.id field.id)
                (begun x.id.section x.start x.width field.id.section field.start field.width ends_own))
            | inr least ↦ (
                let same : k ≡ s.place = omega arith in
                let is : x ≡ s.own = ap (λ (m : ℕ). slice_index_or items m d) same ∙ here in
                last_false (meets field.id.section field.start field.width x) (comes_before x.id field.id)
                (not_earlier x.id.table x.id.entry field.id.table field.id.entry
                (ap (λ (f : RecordField). f.id.table) is ∙ s.table) (ap (λ (f : RecordField). f.id.entry) is ∙ s.entry)))
          ]
        ]

-- a field is that of a record
abbrev pub is_own : RecordField → RecordField → Bool
is_own field f =
    eqb f.id.table field.id.table && eqb f.id.entry field.id.entry && eqb f.id.section field.id.section
    && eqb f.start field.start && eqb f.width field.width

own_passes : (table entry section info start width : ℕ) → section ≡ info →
    (eqb table table && eqb entry entry && eqb info section && eqb start start && eqb width width) ≡ true
own_passes table entry section info start width is = grind (arith, nat_tests)

-- numbers that are the same
record AreSame (table entry section start width table' entry' section' start' width' : ℕ) : Type 0 where
  table_is : table' ≡ table
  entry_is : entry' ≡ entry
  section_is : section' ≡ section
  start_is : start' ≡ start
  width_is : width' ≡ width

own_same : (table entry section start width table' entry' section' start' width' : ℕ) →
    (eqb table' table && eqb entry' entry && eqb section' section && eqb start' start && eqb width' width) ≡ true →
    AreSame table entry section start width table' entry' section' start' width'
own_same table entry section start width table' entry' section' start' width' passes = record {
  table_is = grind (arith, nat_tests, passes);
  entry_is = grind (arith, nat_tests, passes);
  section_is = grind (arith, nat_tests, passes);
  start_is = grind (arith, nat_tests, passes);
  width_is = grind (arith, nat_tests, passes);
}

module _ (files : List (List ℕ)) (r : RecordId) (is : IsRecord files r) (items : List RecordField)
    (same : IsPermutation (fields_of r.file (file_at files r.file)) items) where
  abbrev pub b : List ℕ
  b = file_at files r.file

  abbrev pub field : RecordField
  field = field_of b r

  -- the field of a record of the file stands among the fields
  own_found : list_any (is_own field) items ≡ true
  own_found =
      let facts = field in
      sym (list_any-IsPermutation (is_own field) (fields_of r.file b) items same)
      ∙ any_mapped (is_own field) (field_of b) (records_of r.file b)
      ∙ record_passes (λ q. is_own field (field_of b q)) r.file b r.table r.entry (e_shnum b) is.table_in is.within
      (own_passes r.table r.entry r.section (sh_info b r.table) facts.start facts.width is.section_is)

  own_stands : (apart : AreApart items) → Stands items apart field
  own_stands apart =
      let found = Any-from_list_any (is_own field) items own_found in
      let f = found.1 in
      let same_are = own_same r.table r.entry r.section field.start field.width f.id.table f.id.entry f.id.section f.start f.width found.4 in
      record {
        place = found.0;
        own = f;
        within = found.2;
        is = sym found.3;
        table = same_are.table_is;
        entry = same_are.entry_is;
        section = same_are.section_is;
        start = same_are.start_is;
        width = same_are.width_is;
      }

  -- and no earlier record's field has bytes of it
  pub none_earlier : AreApart items → overlaps_earlier r.file b r ≡ false
  none_earlier apart =
      let m = meets r.section field.start field.width in
      let q : RecordField → Bool = λ f. comes_before f.id r in
      let test : RecordField → Bool = λ f. m f && q f in
      list_any-filter m q (fields_of r.file b)
      ∙ list_any-IsPermutation test (fields_of r.file b) items same
      ∙ list_any_none test items (none_at items apart field (own_stands apart))
