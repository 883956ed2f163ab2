-- What one record of a file has, some record of the file has.
use Rattle.std.proofs.Common.{◌≡◌, ◌<◌, ℕ, zero, suc, ◌+◌, Bool, true, false, not, ◌||◌, List, [], ◌∷◌, length, sym, ap, ◌∙◌, subst, refl, arith, inl, inr, add-one}
use Rattle.std.specs.List.{list_any}
use Rattle.std.proofs.lemmas.Bool.{cases_lt}
use Rattle.std.proofs.lemmas.List.Folds.{list_any-append}
use Rattle.elf64_records.specs.Records.{record_count}
use Rattle.object_set.specs.declared.places.RecordId.{RecordId}
use Rattle.elf64_records.specs.FileHeader.{e_shnum}
use Rattle.object_set.specs.Files.{file_at}
use Rattle.object_set.specs.Walks.{items_in, items_before, all_items, record_walk, record_id, records_in, IsRecord}

or_true : (p : Bool) → (p || true) ≡ true
or_true true = refl
or_true false = refl

or_none : (b : Bool) → (b || false) ≡ b
or_none true = refl
or_none false = refl

module _ (test : RecordId → Bool) (file : ℕ) (b : List ℕ) where
  pub entry_passes : (i k n : ℕ) → k < n → test (record_id file b i k) ≡ true → list_any test (records_in file b i n) ≡ true
  entry_passes i k zero within passes = absurd (omega arith)
  entry_passes i k (suc n) within passes =
      let all = list_any-append test (records_in file b i n) (record_id file b i n ∷ []) in
      elim (cases_lt k n) [
        | inl less ↦ all ∙ ap (λ (x : Bool). x || list_any test (record_id file b i n ∷ [])) (entry_passes i k n less passes)
        | inr most ↦ (
            let same : k ≡ n = omega arith in
            let last : (test (record_id file b i n) || false) ≡ true =
            ap (λ (m : ℕ). test (record_id file b i m) || false) (sym same) ∙ ap (λ (x : Bool). x || false) passes in
            all ∙ ap (λ (x : Bool). list_any test (records_in file b i n) || x) last ∙ or_true (list_any test (records_in file b i n)))
      ]

  -- one record more
  pub entry_next : (i n : ℕ) → list_any test (records_in file b i n) ≡ false → test (record_id file b i n) ≡ false →
      list_any test (records_in file b i (suc n)) ≡ false
  entry_next i n before this =
      list_any-append test (records_in file b i n) (record_id file b i n ∷ [])
      ∙ ap (λ (x : Bool). x || list_any test (record_id file b i n ∷ [])) before
      ∙ or_none (test (record_id file b i n)) ∙ this

  pub entry_more : (i n : ℕ) → list_any test (records_in file b i n) ≡ false → test (record_id file b i n) ≡ false →
      list_any test (records_in file b i (n + 1)) ≡ false
  entry_more i n before this =
      ap (λ (m : ℕ). list_any test (records_in file b i m)) (add-one n) ∙ entry_next i n before this

  pub table_passes : (i n : ℕ) → i < n → list_any test (records_in file b i (record_count b i)) ≡ true →
      list_any test (items_in record_walk file b n) ≡ true
  table_passes i zero within passes = absurd (omega arith)
  table_passes i (suc n) within passes =
      let before = items_in record_walk file b n in
      let own = records_in file b n (record_count b n) in
      let all = list_any-append test before own in
      elim (cases_lt i n) [
        | inl less ↦ all ∙ ap (λ (x : Bool). x || list_any test own) (table_passes i n less passes)
        | inr most ↦ (
            let same : i ≡ n = omega arith in
            let last : list_any test own ≡ true =
            subst (λ (m : ℕ). list_any test (records_in file b m (record_count b m)) ≡ true) same passes in
            all ∙ ap (λ (x : Bool). list_any test before || x) last ∙ or_true (list_any test before))
      ]

  -- one section more
  pub table_next : (n : ℕ) → list_any test (items_in record_walk file b n) ≡ false →
      list_any test (records_in file b n (record_count b n)) ≡ false → list_any test (items_in record_walk file b (suc n)) ≡ false
  table_next n before this =
      list_any-append test (items_in record_walk file b n) (records_in file b n (record_count b n))
      ∙ ap (λ (x : Bool). x || list_any test (records_in file b n (record_count b n))) before ∙ this

  pub table_more : (n : ℕ) → list_any test (items_in record_walk file b n) ≡ false →
      list_any test (records_in file b n (record_count b n)) ≡ false → list_any test (items_in record_walk file b (n + 1)) ≡ false
  table_more n before this =
      ap (λ (m : ℕ). list_any test (items_in record_walk file b m)) (add-one n) ∙ table_next n before this

-- the two answers of a test
pub not_true : (b : Bool) → not b ≡ true → b ≡ false
not_true true is = cc
not_true false is = refl

pub not_false : (b : Bool) → not b ≡ false → b ≡ true
not_false true is = refl
not_false false is = cc

module _ (test : RecordId → Bool) (files : List (List ℕ)) where
  file_passes : (file n : ℕ) → file < n →
      list_any test (items_in record_walk file (file_at files file) (e_shnum (file_at files file))) ≡ true →
      list_any test (items_before record_walk files n) ≡ true
  file_passes file zero within passes = absurd (omega arith)
  file_passes file (suc n) within passes =
      let before = items_before record_walk files n in
      let own : ℕ → List RecordId = λ m. items_in record_walk m (file_at files m) (e_shnum (file_at files m)) in
      let all = list_any-append test before (own n) in
      elim (cases_lt file n) [
        | inl less ↦ all ∙ ap (λ (x : Bool). x || list_any test (own n)) (file_passes file n less passes)
        | inr most ↦ (
            let same : file ≡ n = omega arith in
            let last : list_any test (own n) ≡ true = subst (λ (m : ℕ). list_any test (own m) ≡ true) same passes in
            all ∙ ap (λ (x : Bool). list_any test before || x) last ∙ or_true (list_any test before))
      ]

  -- what a record of a set has, some record of all has
  pub record_passes : (r : RecordId) → IsRecord files r → test r ≡ true → list_any test (all_items record_walk files) ≡ true
  record_passes r is passes =
      let b = file_at files r.file in
      let own : record_id r.file b r.table r.entry ≡ r =
      ap (λ (s : ℕ). record { file = r.file; table = r.table; entry = r.entry; section = s }) (sym is.section_is) in
      file_passes r.file (length files) is.file_in
      (table_passes test r.file b r.table (e_shnum b) is.table_in
      (entry_passes test r.file b r.table r.entry (record_count b r.table) is.within (ap test own ∙ passes)))
