-- At an offset of a section stands one call at most, since the fields of records that aren't refused have no bytes in common.
use Rattle.std.proofs.Common.{◌≡◌, ◌<◌, ◌≤◌, inl, inr, ℕ, zero, suc, Bool, true, false, ◌&&◌, cond, eqb, List, [], ◌∷◌, ◌++◌, map, filter, length, Option, None, Some, sym, ap, ◌∙◌, subst, refl, arith}
use Rattle.std.specs.Prelude.{is_some}
use Rattle.std.specs.List.{AllByRecursion}
use Rattle.std.proofs.lemmas.Bool.{and_parts}
use Rattle.std.proofs.lemmas.Bool.Decides.{nat_tests}
use Rattle.elf64_records.specs.FileHeader.{e_shnum}
use Rattle.elf64_records.specs.Records.{record_count, rela_of}
use Rattle.object_set.specs.declared.places.RecordId.{RecordId}
use Rattle.object_set.specs.Files.{file_at}
use Rattle.object_set.specs.Walks.{items_in, record_walk, records_in, record_id, IsRecord}
use Rattle.reloc_fields.specs.declared.kind.Kind.{Kind}
use Rattle.reloc_fields.specs.declared.kind.Kind.TheVariants as kind
use Rattle.reloc_fields.specs.Table.{line_of}
use Rattle.symbol_table.specs.declared.fields.RecordField.{RecordField}
use Rattle.symbol_table.specs.Fields.{kind_numbered, width_in, field_of, records_of, comes_before}
use Rattle.symbol_table.specs.Records.{records_refusal}
use Rattle.symbol_table.specs.laws.Records.{records_sound, fields_apart}
use Rattle.call_sites.specs.Sites.{linkage_of, linkage_in, is_call, begins_at, calls_at}

-- a record of a file
record IsOf (files : List (List ℕ)) (file : ℕ) (r : RecordId) : Type 0 where
  record_in : IsRecord files r
  file_is : r.file ≡ file

module _ (files : List (List ℕ)) (file : ℕ) where
  abbrev Precedes : RecordId → List RecordId → Type 0
  Precedes r rs = AllByRecursion (λ q. comes_before r q ≡ true) rs

  abbrev Follows : List RecordId → RecordId → Type 0
  Follows rs r = AllByRecursion (λ q. comes_before q r ≡ true) rs

  -- records in record order
  abbrev InOrder : List RecordId → Type 0
  InOrder [] = Unit {0}
  InOrder (r ∷ rs) = IsOf files file r × Precedes r rs × InOrder rs

  precedes_more : (r q : RecordId) (rs : List RecordId) → Precedes r rs → comes_before r q ≡ true → Precedes r (rs ++ q ∷ [])
  precedes_more r q [] are is = (is, tt)
  precedes_more r q (s ∷ rs) are is = (are.0, precedes_more r q rs are.1 is)

  in_order_more : (rs : List RecordId) (r : RecordId) → InOrder rs → IsOf files file r → Follows rs r → InOrder (rs ++ r ∷ [])
  in_order_more [] r are is follows = (is, tt, tt)
  in_order_more (q ∷ rs) r are is follows =
      (are.0, precedes_more q r rs are.1 follows.0, in_order_more rs r are.2 is follows.1)

  -- those of a section
  abbrev Among : ℕ → ℕ → List RecordId → Type 0
  Among i n rs = AllByRecursion (λ q. (q.table ≡ i) × (q.entry < n)) rs

  among_more : (i n : ℕ) (r : RecordId) (rs : List RecordId) → Among i n rs → r.table ≡ i → r.entry ≡ n → Among i (suc n) (rs ++ r ∷ [])
  among_more i n r [] are table entry = ((table, omega arith), tt)
  among_more i n r (q ∷ rs) are table entry = ((are.0.0, omega (arith, are.0.1)), among_more i n r rs are.1 table entry)

  entries_among : (i n : ℕ) → Among i n (records_in file (file_at files file) i n)
  entries_among i zero = tt
  entries_among i (suc n) =
      let b = file_at files file in
      among_more i n (record_id file b i n) (records_in file b i n) (entries_among i n) refl refl

  later_entry : (q r : RecordId) → q.table ≡ r.table → q.entry < r.entry → comes_before q r ≡ true
  later_entry q r same less = grind (arith, nat_tests)

  later_table : (q r : RecordId) → q.table < r.table → comes_before q r ≡ true
  later_table q r less = grind (arith, nat_tests)

  among_follows : (i n : ℕ) (r : RecordId) (rs : List RecordId) → Among i n rs → r.table ≡ i → r.entry ≡ n → Follows rs r
  among_follows i n r [] are table entry = tt
  among_follows i n r (q ∷ rs) are table entry =
      (later_entry q r (are.0.0 ∙ sym table) (omega (arith, are.0.1)), among_follows i n r rs are.1 table entry)

  entries_in_order : (i n : ℕ) → file < length files → i < e_shnum (file_at files file) → n ≤ record_count (file_at files file) i →
      InOrder (records_in file (file_at files file) i n)
  entries_in_order i zero file_in within few = tt
  entries_in_order i (suc n) file_in within few =
      let b = file_at files file in
      in_order_more (records_in file b i n) (record_id file b i n) (entries_in_order i n file_in within (omega arith))
      (record {
        record_in = record { file_in = file_in; table_in = within; within = omega arith; section_is = refl };
        file_is = refl;
      })
      (among_follows i n (record_id file b i n) (records_in file b i n) (entries_among i n) refl refl)

  -- those of the first sections
  abbrev Below : ℕ → List RecordId → Type 0
  Below n rs = AllByRecursion (λ q. q.table < n) rs

  below_append : (n : ℕ) (rs qs : List RecordId) → Below n rs → (m : ℕ) → Among n m qs → Below (suc n) (rs ++ qs)
  below_append n [] [] below m among = tt
  below_append n [] (q ∷ qs) below m among = (omega (arith, among.0.0), below_append n [] qs tt m among.1)
  below_append n (r ∷ rs) qs below m among = (omega (arith, below.0), below_append n rs qs below.1 m among)

  precedes_section : (n m : ℕ) (r : RecordId) (qs : List RecordId) → r.table < n → Among n m qs → Precedes r qs
  precedes_section n m r [] less among = tt
  precedes_section n m r (q ∷ qs) less among = (later_table r q (omega (arith, among.0.0)), precedes_section n m r qs less among.1)

  precedes_append : (r : RecordId) (rs qs : List RecordId) → Precedes r rs → Precedes r qs → Precedes r (rs ++ qs)
  precedes_append r [] qs first second = second
  precedes_append r (s ∷ rs) qs first second = (first.0, precedes_append r rs qs first.1 second)

  in_order_append : (n m : ℕ) (rs qs : List RecordId) → InOrder rs → InOrder qs → Below n rs → Among n m qs → InOrder (rs ++ qs)
  in_order_append n m [] qs first second below among = second
  in_order_append n m (r ∷ rs) qs first second below among = (
    first.0,
    precedes_append r rs qs first.1 (precedes_section n m r qs below.0 among),
    in_order_append n m rs qs first.2 second below.1 among,
  )

  tables_below : (n : ℕ) → Below n (items_in record_walk file (file_at files file) n)
  tables_below zero = tt
  tables_below (suc n) =
      let b = file_at files file in
      below_append n (items_in record_walk file b n) (records_in file b n (record_count b n)) (tables_below n) (record_count b n)
      (entries_among n (record_count b n))

  tables_in_order : (n : ℕ) → file < length files → n ≤ e_shnum (file_at files file) →
      InOrder (items_in record_walk file (file_at files file) n)
  tables_in_order zero file_in few = tt
  tables_in_order (suc n) file_in few =
      let b = file_at files file in
      in_order_append n (record_count b n) (items_in record_walk file b n) (records_in file b n (record_count b n))
      (tables_in_order n file_in (omega arith)) (entries_in_order n (record_count b n) file_in (omega arith) (omega arith))
      (tables_below n) (entries_among n (record_count b n))

  module _ (p : RecordField → Bool) (apart : (q r : RecordId) → IsOf files file q → IsOf files file r → comes_before q r ≡ true →
      p (field_of (file_at files file) q) ≡ true → p (field_of (file_at files file) r) ≡ true → ⊥) where
    abbrev kept : List RecordId → List RecordField
    kept rs = filter p (map (field_of (file_at files file)) rs)

    none_case : (r q : RecordId) (rs : List RecordId) (t : Bool) → p (field_of (file_at files file) q) ≡ t → IsOf files file r →
        IsOf files file q → comes_before r q ≡ true → p (field_of (file_at files file) r) ≡ true → kept rs ≡ [] →
        cond t (field_of (file_at files file) q ∷ kept rs) (kept rs) ≡ []
    none_case r q rs true test is other before passes rest = absurd (apart r q is other before passes test)
    none_case r q rs false test is other before passes rest = rest

    none_after : (r : RecordId) (rs : List RecordId) → IsOf files file r → Precedes r rs → InOrder rs →
        p (field_of (file_at files file) r) ≡ true → kept rs ≡ []
    none_after r [] is before ordered passes = refl
    none_after r (q ∷ rs) is before ordered passes =
        none_case r q rs (p (field_of (file_at files file) q)) refl is ordered.0 before.0 passes
        (none_after r rs is before.1 ordered.2 passes)

    one_case : (r : RecordId) (rs : List RecordId) (t : Bool) → p (field_of (file_at files file) r) ≡ t → InOrder (r ∷ rs) →
        length (kept rs) ≤ 1 →
        length (cond t (field_of (file_at files file) r ∷ kept rs) (kept rs)) ≤ 1
    one_case r rs true test ordered rest =
        let none = ap length (none_after r rs ordered.0 ordered.1 ordered.2 test) in omega (arith, none)
    one_case r rs false test ordered rest = rest

    one_kept : (rs : List RecordId) → InOrder rs → length (kept rs) ≤ 1
    one_kept [] ordered = omega arith
    one_kept (r ∷ rs) ordered = one_case r rs (p (field_of (file_at files file) r)) refl ordered (one_kept rs ordered.2)

-- the field of a call has four bytes
call_wide : (k : Kind) → is_some (linkage_of k) ≡ true → (line_of k).width ≡ 4
call_wide = elim [ kind.Rel24 ↦ λ some. refl | kind.Rel24Notoc ↦ λ some. refl | _ ↦ λ some. cc ]

width_case : (o : Option Kind) → is_some (linkage_in o) ≡ true → width_in o ≡ 4
width_case None some = cc
width_case (Some k) some = call_wide k some

some_of : (o : Option Kind) (k : Kind) → o ≡ Some k → is_some (linkage_in o) ≡ true → is_some (linkage_of k) ≡ true
some_of o k is some = sym (ap (λ (x : Option Kind). is_some (linkage_in x)) is) ∙ some

-- a call at an offset of a section
record IsCallAt (b : List ℕ) (section offset : ℕ) (r : RecordId) : Type 0 where
  place : r.section ≡ section
  start : (field_of b r).start ≡ offset
  some : is_some (linkage_in (kind_numbered (rela_of b r.table r.entry).kind)) ≡ true
  wide : (field_of b r).width ≡ 4

is_call_at : (b : List ℕ) (section offset : ℕ) (r : RecordId) →
    (is_call b (field_of b r) && begins_at section offset (field_of b r)) ≡ true → IsCallAt b section offset r
is_call_at b section offset r passes =
    let parts = and_parts (is_call b (field_of b r)) (begins_at section offset (field_of b r)) passes in
    let place = and_parts (eqb r.section section) (eqb (field_of b r).start offset) parts.1 in
    let in_section = place.0 in
    let at_offset = place.1 in
    record {
      place = grind (arith, nat_tests, in_section);
      start = grind (arith, nat_tests, at_offset);
      some = parts.0;
      wide = width_case (kind_numbered (rela_of b r.table r.entry).kind) parts.0;
    }

clash : (files : List (List ℕ)) (section offset : ℕ) (q r : RecordId) → records_refusal files ≡ None → IsRecord files q → IsRecord files r →
    q.file ≡ r.file → comes_before q r ≡ true → IsCallAt (file_at files r.file) section offset q →
    IsCallAt (file_at files r.file) section offset r → ⊥
clash files section offset q r none q_in r_in same before one other =
    let b = file_at files r.file in
    let sound = records_sound files r none r_in in
    let some = some_of (kind_numbered (rela_of b r.table r.entry).kind) sound.kind sound.kind_is other.some in
    let fills : 0 < (line_of sound.kind).width = omega (arith, call_wide sound.kind some) in
    let field = sound.field fills in
    elim (fields_apart files q r field.apart q_in same (one.place ∙ sym other.place) before (omega (arith, one.wide))
    (omega (arith, other.wide))) [
      | inl earlier ↦ omega (arith, earlier, one.start, other.start, one.wide, other.wide)
      | inr later ↦ omega (arith, later, one.start, other.start, one.wide, other.wide)
    ]

-- at an offset of a section stands one call at most
pub one_call : (files : List (List ℕ)) (file section offset : ℕ) → records_refusal files ≡ None → file < length files →
    length (calls_at file (file_at files file) section offset) ≤ 1
one_call files file section offset none file_in =
    let b = file_at files file in
    one_kept files file (λ f. is_call b f && begins_at section offset f)
    (λ q r q_is r_is before q_here r_here.
    clash files section offset q r none q_is.record_in r_is.record_in (q_is.file_is ∙ sym r_is.file_is) before
    (subst (λ (n : ℕ). IsCallAt (file_at files n) section offset q) (sym r_is.file_is) (is_call_at b section offset q q_here))
    (subst (λ (n : ℕ). IsCallAt (file_at files n) section offset r) (sym r_is.file_is) (is_call_at b section offset r r_here)))
    (records_of file b) (tables_in_order files file (e_shnum b) file_in (omega arith))
