-- The records of a file, and their fields.
use Rattle.std.proofs.Common.{◌≡◌, ◌<◌, ◌≤◌, ℕ, zero, suc, Bool, true, false, cond, ◌&&◌, ◌||◌, IfSome, sym, ap, ◌∙◌, List, [], ◌∷◌, Option, None, Some, length, refl, arith, subst}
use Rattle.std.specs.List.{All, slice_index_or, list_any, filter}
use Rattle.std.specs.List.Sorted.{IsPermutation}
use Rattle.std.proofs.lemmas.List.Elements.{All-append, All-map, All-filter}
use Rattle.std.proofs.lemmas.List.Sorted.{All-permutation, list_any-IsPermutation}
use Rattle.std.proofs.Math.Bool.{or-false}
use Rattle.elf64_records.specs.FileHeader.{e_shnum}
use Rattle.elf64_records.specs.Records.{record_count, rela_of}
use Rattle.object_set.specs.declared.places.RecordId.{RecordId}
use Rattle.object_set.specs.Files.{file_at}
use Rattle.object_set.specs.Walks.{items_in, record_walk, records_in, record_id, IsRecord}
use Rattle.reloc_fields.specs.declared.kind.Kind.{Kind}
use Rattle.reloc_fields.specs.declared.kind.Kind.TheVariants as kind
use Rattle.reloc_fields.specs.Table.{line_of}
use Rattle.symbol_table.specs.declared.fields.RecordField.{RecordField}
use Rattle.symbol_table.specs.Fields.{kind_numbered, width_in, field_of, records_of, fields_of, meets, comes_before, overlaps_earlier}
use Rattle.symbol_table.specs.inside.Fields.{IsFieldOf, AreFileFields, AreTwo, AreOnlyTwo}
use Rattle.symbol_table.specs.laws.FilteredLists.{list_any-filter, length-filter-IsPermutation}

-- no field has more than eight bytes
kind_narrow : (k : Kind) → (line_of k).width ≤ 8
kind_narrow = elim [ kind.None ↦ omega arith | _ ↦ omega arith ]

width_narrow : (o : Option Kind) → width_in o ≤ 8
width_narrow None = omega arith
width_narrow (Some k) = kind_narrow k

module _ {X : Type 0} (P : X → Type 0) where
  all_none : All P []
  all_none = λ k d within. absurd (omega arith)

  one_case : (x : X) → P x → (k : ℕ) (d : X) → k < length (x ∷ []) → P (slice_index_or (x ∷ []) k d)
  one_case x this zero d within = this
  one_case x this (suc k) d within = absurd (omega arith)

  all_one : (x : X) → P x → All P (x ∷ [])
  all_one x this = λ k d within. one_case x this k d within

-- a record of a file of a set
record IsOf (files : List (List ℕ)) (file : ℕ) (r : RecordId) : Type 0 where
  record_in : IsRecord files r
  file_is : r.file ≡ file

entries_are : (files : List (List ℕ)) (file i n : ℕ) → file < length files → i < e_shnum (file_at files file) →
    n ≤ record_count (file_at files file) i → All (IsOf files file) (records_in file (file_at files file) i n)
entries_are files file i zero file_in within few = all_none (IsOf files file)
entries_are files file i (suc n) file_in within few =
    let b = file_at files file in
    All-append (IsOf files file) (records_in file b i n) (record_id file b i n ∷ [])
    (entries_are files file i n file_in within (omega arith))
    (all_one (IsOf files file) (record_id file b i n)
    (record {
      record_in = record { file_in = file_in; table_in = within; within = omega arith; section_is = refl };
      file_is = refl;
    }))

records_are : (files : List (List ℕ)) (file n : ℕ) → file < length files → n ≤ e_shnum (file_at files file) →
    All (IsOf files file) (items_in record_walk file (file_at files file) n)
records_are files file zero file_in few = all_none (IsOf files file)
records_are files file (suc n) file_in few =
    let b = file_at files file in
    All-append (IsOf files file) (items_in record_walk file b n) (records_in file b n (record_count b n))
    (records_are files file n file_in (omega arith)) (entries_are files file n (record_count b n) file_in (omega arith) (omega arith))

-- the fields of a file's records
pub fields_are : (files : List (List ℕ)) (file : ℕ) → file < length files →
    All (IsFieldOf files file) (fields_of file (file_at files file))
fields_are files file file_in =
    let b = file_at files file in
    let records = records_are files file (e_shnum b) file_in (omega arith) in
    All-map (IsFieldOf files file) (field_of b) (records_of file b)
    (λ k d within.
    let this = records k d within in
    let r = slice_index_or (records_of file b) k d in
    record {
      record_in = this.record_in;
      file_is = this.file_is;
      width_most = width_narrow (kind_numbered (rela_of b r.table r.entry).kind);
    })

-- in any order
pub items_are : (files : List (List ℕ)) (file : ℕ) (items : List RecordField) → AreFileFields files file items →
    All (IsFieldOf files file) items
items_are files file items are =
    All-permutation (IsFieldOf files file) (fields_of file (file_at files file)) items are.same (fields_are files file are.file_in)

module _ (file : ℕ) (b : List ℕ) (items window : List RecordField) (r : RecordId) (found : Bool)
    (same : IsPermutation (fields_of file b) items) where
  -- what is so of a window of the fields in another order
  abbrev IsFoundIn : RecordField → Type 0
  IsFoundIn g =
      filter (meets r.section g.start g.width) window ≡ filter (meets r.section g.start g.width) items →
      found ≡ list_any (λ f. meets g.id.section g.start g.width f && comes_before f.id g.id) window → found ≡ overlaps_earlier file b r

  own_found : IsFoundIn (field_of b r)
  own_found holds is =
      let m = meets r.section (field_of b r).start (field_of b r).width in
      let q : RecordField → Bool = λ f. comes_before f.id r in
      let both : RecordField → Bool = λ f. m f && q f in
      is ∙ sym (list_any-filter m q window) ∙ ap (list_any q) holds ∙ list_any-filter m q items
      ∙ sym (list_any-IsPermutation both (fields_of file b) items same)
      ∙ sym (list_any-filter m q (fields_of file b))

  -- a window with the fields that have common bytes tells whether one of them is an earlier record's
  pub earlier_found : (field : RecordField) → field ≡ field_of b r → IsFoundIn field
  earlier_found field is = subst IsFoundIn (sym is) own_found

-- the fields of a file are narrow
pub items_narrow : (files : List (List ℕ)) (file : ℕ) (items xs : List RecordField) → AreFileFields files file items → xs ≡ items →
    All (λ (f : RecordField). f.width ≤ 8) xs
items_narrow files file items xs are is =
    subst (All (λ (f : RecordField). f.width ≤ 8)) (sym is) (λ k d within. (items_are files file items are k d within).width_most)

-- a test is passed among what it keeps exactly if it is passed
kept_case : {X : Type 0} (p : X → Bool) (x : X) (xs : List X) (b : Bool) → p x ≡ b → list_any p (filter p xs) ≡ list_any p xs →
    list_any p (cond b (x ∷ filter p xs) (filter p xs)) ≡ (b || list_any p xs)
kept_case p x xs true test rest = ap (λ (b : Bool). b || list_any p (filter p xs)) test
kept_case p x xs false test rest = rest

any_kept : {X : Type 0} (p : X → Bool) (xs : List X) → list_any p (filter p xs) ≡ list_any p xs
any_kept p [] = refl
any_kept p (x ∷ xs) = kept_case p x xs (p x) refl (any_kept p xs)

module _ (p : RecordField → Bool) (fields items window : List RecordField) (holds : filter p window ≡ filter p items) where
  -- a window tells whether one of the fields in another order passes
  pub any_found : IsPermutation fields items → list_any p window ≡ list_any p fields
  any_found same =
      sym (any_kept p window) ∙ ap (list_any p) holds ∙ any_kept p items ∙ sym (list_any-IsPermutation p fields items same)

  -- the two of a window are those of the fields in another order
  pub two_of : (pair : Option (RecordField × RecordField)) → IsPermutation fields items → AreTwo (filter p window) pair →
      AreOnlyTwo (filter p fields) pair
  two_of None same are = λ two. are (ap length holds ∙ length-filter-IsPermutation p fields items same ∙ two)
  two_of (Some pair) same are = record {
    count = sym (length-filter-IsPermutation p fields items same) ∙ ap length (sym holds ∙ are);
    pass = λ test.
        list_any-filter p test fields ∙ list_any-IsPermutation (λ f. p f && test f) fields items same ∙ sym (list_any-filter p test items)
        ∙ ap (list_any test) (sym holds ∙ are) ∙ ap (λ (b : Bool). test pair.0 || b) (or-false (test pair.1));
  }

  -- what is so of each field is so of the two
  pub two_are : (P : RecordField → Type 0) (pair : Option (RecordField × RecordField)) → All P items → AreTwo (filter p window) pair →
      IfSome pair (λ x. P x.0 × P x.1)
  two_are P None each are = tt
  two_are P (Some pair) each are =
      let these : All P (pair.0 ∷ pair.1 ∷ []) = subst (All P) (sym holds ∙ are) (All-filter p P items each) in
      (these 0 pair.0 (omega arith), these 1 pair.0 (omega arith))
