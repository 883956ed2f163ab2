-- The list of all records: each record of a set is in it, and no two elements are one record.
use Rattle.std.proofs.Common.{ℕ, zero, suc, ◌+◌, ◌≡◌, ◌<◌, inl, inr, List, [], ◌∷◌, length, length-append, Some, slice_get, AllPairs, Contains, ap, sym, ◌∙◌, refl, arith}
use Rattle.std.specs.List.{slice_index_or}
use Rattle.std.proofs.lemmas.Bool.{cases_lt}
use Rattle.std.proofs.lemmas.Option.{slice_get_within, get_or_from_slice_get, slice_get-get_or}
use Rattle.elf64_records.specs.Records.{record_count}
use Rattle.object_set.specs.declared.places.RecordId.{RecordId}
use Rattle.object_set.specs.Files.{file_at}
use Rattle.object_set.specs.Walks.{all_items, index_of, record_walk, record_id, records_in, IsRecord}
use Rattle.object_set.specs.laws.Walks.{IsItem, get_left, get_right, item_at, item_from}

entries_count : (file : ℕ) (b : List ℕ) (i n : ℕ) → length (records_in file b i n) ≡ n
entries_count file b i zero = refl
entries_count file b i (suc n) =
    let ih = entries_count file b i n in
    let all = length-append (records_in file b i n) (record_id file b i n ∷ []) in
    omega (arith, ih, all)

-- record k of a section stands at k
entry_at : (file : ℕ) (b : List ℕ) (i n k : ℕ) → k < n → slice_get (records_in file b i n) k ≡ Some (record_id file b i k)
entry_at file b i zero k within = absurd (omega (arith, within))
entry_at file b i (suc n) k within =
    elim (cases_lt k n) [
      | inl less ↦ get_left (records_in file b i n) (record_id file b i n ∷ []) k (record_id file b i k) (entry_at file b i n k less)
      | inr most ↦ (
          let same : n ≡ k = omega (arith, within, most) in
          let place : k ≡ length (records_in file b i n) + 0 = omega (arith, same, entries_count file b i n) in
          get_right (records_in file b i n) (record_id file b i n ∷ []) k 0 (record_id file b i k) place
          (ap (λ (m : ℕ). Some (record_id file b i m)) same))
    ]

module _ (files : List (List ℕ)) where
  -- a record of the set is in the list
  pub record_in : (r : RecordId) → IsRecord files r → Contains (all_items record_walk files) r
  record_in r is =
      let b = file_at files r.file in
      let own : record_id r.file b r.table r.entry ≡ r =
      ap (λ (s : ℕ). record { file = r.file; table = r.table; entry = r.entry; section = s }) (sym is.section_is) in
      let here : slice_get (records_in r.file b r.table (record_count b r.table)) r.entry ≡ Some r =
      entry_at r.file b r.table (record_count b r.table) r.entry is.within ∙ ap Some own in
      let k = index_of record_walk files r.file r.table + r.entry in
      let found : slice_get (all_items record_walk files) k ≡ Some r =
      item_at record_walk files r.file r.table r.entry r is.file_in is.table_in here in (
        k,
        slice_get_within (all_items record_walk files) k r found,
        get_or_from_slice_get (all_items record_walk files) k r r found,
      )

  -- the place of a record in the list
  abbrev place_of : RecordId → ℕ
  place_of r = index_of record_walk files r.file r.table + r.entry

  place_case : (k : ℕ) (r : RecordId) → IsItem record_walk files k r → place_of r ≡ k
  place_case k r is =
      let b = file_at files is.file in
      let n = record_count b is.number in
      let within : is.offset < n =
      (let some = slice_get_within (records_in is.file b is.number n) is.offset r is.here in
      omega (arith, some, entries_count is.file b is.number n)) in
      let both : Some (record_id is.file b is.number is.offset) ≡ Some r =
      sym (entry_at is.file b is.number n is.offset within) ∙ is.here in
      let same : record_id is.file b is.number is.offset ≡ r = cc in
      ap place_of (sym same) ∙ is.index

  -- so no two elements are one record
  pub records_differ : AllPairs (λ q r. q ≡ r → ⊥) (all_items record_walk files)
  records_differ = λ i j d before within same.
      let all = all_items record_walk files in
      let first = place_case i (slice_index_or all i d)
      (item_from record_walk files i (slice_index_or all i d) (slice_get-get_or all i d (omega (arith, before, within)))) in
      let second = place_case j (slice_index_or all j d)
      (item_from record_walk files j (slice_index_or all j d) (slice_get-get_or all j d within)) in
      let both = ap place_of same in
      omega (arith, first, second, both, before)
