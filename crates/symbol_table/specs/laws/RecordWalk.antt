-- What is first in a walk past all records is the first of what is first in the files, in their sections, and among the records there.
use Rattle.std.proofs.Common.{◌≡◌, ℕ, zero, suc, ◌+◌, List, [], ◌∷◌, ◌++◌, length, Option, None, Some, sym, ap, ◌∙◌, refl, arith}
use Rattle.elf64_records.specs.First.{◌orelse◌, first_from, first_in}
use Rattle.elf64_records.specs.FileHeader.{e_shnum}
use Rattle.elf64_records.specs.Records.{record_count}
use Rattle.object_set.specs.Files.{file_at}
use Rattle.object_set.specs.declared.places.RecordId.{RecordId}
use Rattle.object_set.specs.Walks.{all_items, items_before, items_in, record_walk, records_in, record_id}
use Rattle.symbol_table.specs.Records.{record_refusal, records_refusal}
use Rattle.symbol_table.specs.inside.Records.{file_records_refusal}

orelse-assoc : {R : Type 0} (o p q : Option R) → (o orelse p) orelse q ≡ o orelse (p orelse q)
orelse-assoc None p q = refl
orelse-assoc (Some r) p q = refl

orelse-none : {R : Type 0} (o : Option R) → o orelse None ≡ o
orelse-none None = refl
orelse-none (Some r) = refl

-- the first of one number more
first_more : {R : Type 0} (g : ℕ → Option R) (start n : ℕ) → first_from g start (suc n) ≡ first_from g start n orelse g (start + n)
first_more g start zero =
    let here : start ≡ start + 0 = omega arith in
    orelse-none (g start) ∙ ap g here
first_more g start (suc n) =
    let last : start + 1 + n ≡ start + suc n = omega arith in
    ap (λ o. g start orelse o) (first_more g (start + 1) n ∙ ap (λ (m : ℕ). first_from g (start + 1) n orelse g m) last)
    ∙ sym (orelse-assoc (g start) (first_from g (start + 1) n) (g (start + suc n)))

-- numbers at which two walks have the same
first_same : {R : Type 0} (g h : ℕ → Option R) → ((k : ℕ) → g k ≡ h k) → (start n : ℕ) → first_from g start n ≡ first_from h start n
first_same g h same start zero = refl
first_same g h same start (suc n) =
    ap (λ o. o orelse first_from g (start + 1) n) (same start) ∙ ap (λ o. h start orelse o) (first_same g h same (start + 1) n)

module _ {X R : Type 0} (f : X → Option R) where
  first_in-append : (xs ys : List X) → first_in f (xs ++ ys) ≡ first_in f xs orelse first_in f ys
  first_in-append [] ys = refl
  first_in-append (x ∷ xs) ys =
      ap (λ o. f x orelse o) (first_in-append xs ys) ∙ sym (orelse-assoc (f x) (first_in f xs) (first_in f ys))

  -- a list that is put together of parts
  first_of_parts : (all part : ℕ → List X) → all 0 ≡ [] → ((n : ℕ) → all (suc n) ≡ all n ++ part n) → (n : ℕ) →
      first_in f (all n) ≡ first_from (λ k. first_in f (part k)) 0 n
  first_of_parts all part none more zero = ap (first_in f) none
  first_of_parts all part none more (suc n) =
      let g : ℕ → Option R = λ k. first_in f (part k) in
      let last : n ≡ 0 + n = omega arith in
      ap (first_in f) (more n) ∙ first_in-append (all n) (part n)
      ∙ ap (λ o. o orelse g n) (first_of_parts all part none more n)
      ∙ ap (λ (m : ℕ). first_from g 0 n orelse g m) last
      ∙ sym (first_more g 0 n)

module _ {R : Type 0} (files : List (List ℕ)) (at : RecordId → Option R) where
  -- what is first among the records that a section of a file holds
  abbrev pub first_of_table : ℕ → ℕ → Option R
  first_of_table file i =
      let b = file_at files file in
      first_from (λ k. at (record_id file b i k)) 0 (record_count b i)

  -- what is first among the records of a file
  abbrev pub first_of_file : ℕ → Option R
  first_of_file file = first_from (first_of_table file) 0 (e_shnum (file_at files file))

  entries_first : (file i n : ℕ) →
      first_in at (records_in file (file_at files file) i n) ≡ first_from (λ k. at (record_id file (file_at files file) i k)) 0 n
  entries_first file i n =
      let b = file_at files file in
      first_of_parts at (records_in file b i) (λ k. record_id file b i k ∷ []) refl (λ m. refl) n
      ∙ first_same (λ k. first_in at (record_id file b i k ∷ [])) (λ k. at (record_id file b i k))
      (λ k. orelse-none (at (record_id file b i k))) 0 n

  tables_first : (file n : ℕ) → first_in at (items_in record_walk file (file_at files file) n) ≡ first_from (first_of_table file) 0 n
  tables_first file n =
      let b = file_at files file in
      let part = λ (i : ℕ). records_in file b i (record_count b i) in
      first_of_parts at (items_in record_walk file b) part refl (λ m. refl) n
      ∙ first_same (λ i. first_in at (part i)) (first_of_table file) (λ i. entries_first file i (record_count b i)) 0 n

  -- what is first among all records is the first of what is first in each file
  pub first_of_records : first_in at (all_items record_walk files) ≡ first_from first_of_file 0 (length files)
  first_of_records =
      let part = λ (file : ℕ). items_in record_walk file (file_at files file) (e_shnum (file_at files file)) in
      first_of_parts at (items_before record_walk files) part refl (λ m. refl) (length files)
      ∙ first_same (λ file. first_in at (part file)) first_of_file (λ file. tables_first file (e_shnum (file_at files file)))
      0 (length files)

-- the first refusal of a record
pub records_first : (files : List (List ℕ)) → records_refusal files ≡ first_from (file_records_refusal files) 0 (length files)
records_first files = first_of_records files (record_refusal files)
