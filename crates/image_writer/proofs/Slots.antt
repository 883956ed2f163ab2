-- Foldable slots of files whose data is laid out: numbers are addresses of the plan, what a slot holds is in reach, and a place has one.
use Rattle.std.proofs.Common.{ℕ, ℤ, pos, negsuc, suc, inl, inr, ◌≡◌, ◌<◌, ◌≤◌, ◌+◌, ◌-◌, ◌%◌, ◌^◌, Bool, true, false, not, List, length, map, get_or, Option, None, Some, ap, sym, ◌∙◌, subst, refl, arith, if◌then◌else◌, slice_index}
use Rattle.std.specs.Prelude.{◌==◌, ◌+ℤ◌, ◌-ℤ◌, neg_ℤ, int_lt, unwrap_or, IsSome}
use Rattle.std.specs.Int.{cast_signed, cast_unsigned, w64}
use Rattle.std.specs.List.{list_any, range_with_len}
use Rattle.std.proofs.lemmas.Bool.{and_parts, cases_lt}
use Rattle.std.proofs.lemmas.Int.{ints, to_z_pos}
use mir.ValLaws.{to_z-neg}
use Rattle.std.proofs.lemmas.Nat.{mod_below}
use Rattle.std.proofs.lemmas.List.FromFn.{get_or-map-range_with_len}
use Rattle.ppc_bytes.specs.Bytes.{InSigned}
use Rattle.elf64_records.specs.FileHeader.{e_shnum}
use Rattle.elf64_records.specs.laws.Whole.{symbol_in_range}
use Rattle.elf64_records.specs.Symbols.{st_value}
use Rattle.elf64_records.specs.Records.{record_count}
use Rattle.object_set.specs.declared.places.RecordId.{RecordId}
use Rattle.object_set.specs.Files.{file_at}
use Rattle.object_set.specs.Refusals.{set_refusal}
use Rattle.object_set.specs.declared.sort.Sort.{Sort}
use Rattle.object_set.specs.declared.sort.Sort.TheVariants.{Text, Zeroed, Toc, Writable, ReadOnly, Dropped}
use Rattle.object_set.specs.Sections.{sort_of}
use Rattle.object_set.specs.Symbols.{name_of, is_local, is_weak, section_index, is_absolute, is_toc_base}
use Rattle.object_set.specs.Walks.{IsRecord, section_walk, index_of, items_in, all_items, record_walk, record_id}
use Rattle.reloc_fields.specs.declared.kind.Kind.{Kind}
use Rattle.symbol_table.specs.declared.target.Piece.{Piece}
use Rattle.symbol_table.specs.declared.target.Piece.TheVariants.{Section, Common}
use Rattle.symbol_table.specs.declared.target.Target.{Target}
use Rattle.symbol_table.specs.declared.target.Target.TheVariants.{Data, Code, Number, TocBase, WeakNone}
use Rattle.symbol_table.specs.Records.{records_refusal}
use Rattle.symbol_table.specs.declared.candidates.Resolution.{Resolution}
use Rattle.symbol_table.specs.declared.candidates.Resolution.TheVariants as resolution
use Rattle.symbol_table.specs.Candidates.{stands_for, common_number}
use Rattle.symbol_table.specs.Targets.{plus_addend, section_target, index_target, own_target, named_target, external_target, target_of}
use Rattle.symbol_table.specs.Text.{text_sections, text_index}
use Rattle.toc_groups.specs.Data.{base_of, piece_address, target_address}
use Rattle.toc_groups.specs.Parts.{IsPieceOf, IsTargetOf}
use Rattle.toc_groups.specs.Plans.{LaidData, IsPlan}
use Rattle.toc_groups.specs.Values.{address_of}
use Rattle.toc_groups.proofs.Reading.{piece_is, first_is, target_in}
use Rattle.toc_groups.proofs.Bounds.{whole_file}
use Rattle.toc_rewrite.specs.Laid.{laid_files, base_of as laid_base, section_address, piece_address as laid_piece, number_of}
use Rattle.toc_rewrite.specs.Records.{facts_of, kind_of, goes, target_by, word_at, record_target}
use Rattle.toc_rewrite.specs.Folds.{is_orderly, is_unsuited, reaches_number, reaches_offset, reaches}
use Rattle.toc_rewrite.specs.Words.{suits}
use Rattle.toc_rewrite.specs.laws.Entries.{table_passes, entry_passes, not_true}
use Rattle.toc_rewrite.proofs.Sections.{index_from_first}
use Rattle.toc_rewrite.proofs.SoundRecords.{goes_somewhere}
use Rattle.image_writer.specs.Rewriting.{laid_by}
use Rattle.image_writer.specs.TocLoads.{held_by}
use Rattle.image_writer.specs.inside.Ready.{AreTextAddresses}

-- a place in text is at an offset of 64 bits
abbrev pub IsOffset : Target → Type 0
IsOffset (Data piece addend) = Unit {0}
IsOffset (Code section offset) = offset < 2 ^ 64
IsOffset (Number n) = Unit {0}
IsOffset (TocBase file addend) = Unit {0}
IsOffset (WeakNone addend) = Unit {0}

section_offset : (files : List (List ℕ)) (file at i : ℕ) (sort : Sort) (t : Target) → at < 2 ^ 64 →
    section_target files file at i sort ≡ Some t → IsOffset t
section_offset files file at i Text t low is = let same : Code (text_index files file i) at ≡ t = cc in subst IsOffset same low
section_offset files file at i Zeroed t low is = let same : Data (Section file i) (cast_signed w64 at) ≡ t = cc in subst IsOffset same tt
section_offset files file at i Toc t low is = let same : Data (Section file i) (cast_signed w64 at) ≡ t = cc in subst IsOffset same tt
section_offset files file at i Writable t low is = let same : Data (Section file i) (cast_signed w64 at) ≡ t = cc in subst IsOffset same tt
section_offset files file at i ReadOnly t low is = let same : Data (Section file i) (cast_signed w64 at) ≡ t = cc in subst IsOffset same tt
section_offset files file at i Dropped t low is = cc

index_offset : (files : List (List ℕ)) (file at : ℕ) (o : Option ℕ) (t : Target) → at < 2 ^ 64 →
    index_target files file at o ≡ Some t → IsOffset t
index_offset files file at None t low is = cc
index_offset files file at (Some i) t low is = section_offset files file at i (sort_of (file_at files file) i) t low is

own_offset : (files : List (List ℕ)) (file at : ℕ) (o : Option ℕ) (absolute : Bool) (t : Target) → at < 2 ^ 64 →
    (if absolute then Some (Number at) else index_target files file at o) ≡ Some t → IsOffset t
own_offset files file at o true t low is = let same : Number at ≡ t = cc in subst IsOffset same tt
own_offset files file at o false t low is = index_offset files file at o t low is

named_offset : (files : List (List ℕ)) (name : List ℕ) (weak : Bool) (stands : Resolution) (a : ℤ) (t : Target) →
    named_target files name weak stands a ≡ Some t → IsOffset t
named_offset files name weak (resolution.Definition s) a t is =
    let b = file_at files s.file in
    own_offset files s.file (plus_addend (st_value b s.symbol) a) (section_index b s.symbol) (is_absolute b s.symbol) t
    (mod_below (st_value b s.symbol + cast_unsigned w64 a) (2 ^ 64) (omega arith)) is
named_offset files name weak (resolution.Common common) a t is =
    let same : Data (Common (common_number files name)) a ≡ t = cc in subst IsOffset same tt
named_offset files name true resolution.Undefined a t is = let same : WeakNone a ≡ t = cc in subst IsOffset same tt
named_offset files name false resolution.Undefined a t is = cc

offset_case : (files : List (List ℕ)) (file j : ℕ) (a : ℤ) (t : Target) (none base local : Bool) →
    (if none then Some (Number (plus_addend 0 a))
    else (if base then Some (TocBase file a)
    else (if local then own_target files file j a
    else external_target files file j a))) ≡ Some t → IsOffset t
offset_case files file j a t true base local is = let same : Number (plus_addend 0 a) ≡ t = cc in subst IsOffset same tt
offset_case files file j a t false true local is = let same : TocBase file a ≡ t = cc in subst IsOffset same tt
offset_case files file j a t false false true is =
    let b = file_at files file in
    own_offset files file (plus_addend (st_value b j) a) (section_index b j) (is_absolute b j) t
    (mod_below (st_value b j + cast_unsigned w64 a) (2 ^ 64) (omega arith)) is
offset_case files file j a t false false false is =
    let b = file_at files file in
    named_offset files (name_of b j) (is_weak b j) (stands_for files (name_of b j)) a t is

-- so is each to which a symbol goes
pub target_offset : (files : List (List ℕ)) (file j : ℕ) (a : ℤ) (t : Target) → target_of files file j a ≡ Some t → IsOffset t
target_offset files file j a t is =
    let b = file_at files file in
    offset_case files file j a t (j == 0) (is_toc_base b j) (is_local b j) is

module _ (files : List (List ℕ)) (span : ℕ) (plan : LaidData) (is : IsPlan files span plan) where
  -- the bases and the pieces of a plan are those of its files
  pub laid_is : laid_files files plan.bases plan.pieces ≡ laid_by files span
  laid_is =
      ap (λ (b : List ℕ). laid_files files b plan.pieces) is.bases
      ∙ ap (laid_files files (map (base_of files span) (range_with_len 0 (length files)))) is.pieces

  pub section_is : (file i : ℕ) → file < length files → i < e_shnum (file_at files file) →
      section_address (laid_by files span) file i ≡ piece_address files span (Section file i)
  section_is file i within inside =
      let first = first_is files span plan is file within in
      let behind = index_from_first files file i in
      let index : index_of section_walk files file i ≡ get_or plan.firsts file 0 + i = omega (arith, first, behind) in
      ap (λ (l : List ℕ). slice_index l (index_of section_walk files file i)) (sym is.pieces)
      ∙ ap (slice_index plan.pieces) index ∙ piece_is files span plan is (Section file i) (within, inside)

  laid_is_piece : (piece : Piece) → IsPieceOf files piece → laid_piece (laid_by files span) piece ≡ piece_address files span piece
  laid_is_piece (Section file i) within = section_is file i within.0 within.1
  laid_is_piece (Common c) within =
      ap (λ (l : List ℕ). slice_index l (length (all_items section_walk files) + c)) (sym is.pieces)
      ∙ ap (λ (n : ℕ). slice_index plan.pieces (n + c)) (sym is.commons) ∙ piece_is files span plan is (Common c) within

  laid_is_base : (file : ℕ) → file < length files → laid_base (laid_by files span) file ≡ base_of files span file
  laid_is_base file within = get_or-map-range_with_len (base_of files span) 0 (length files) file file 0 within (omega arith)

  -- the number of a target is its address, where the plan tells it
  pub number_is : (target : Target) → IsTargetOf files target → number_of (laid_by files span) target ≡ target_address files span target
  number_is (Data piece addend) within = ap (λ (x : ℕ). Some (plus_addend x addend)) (laid_is_piece piece within)
  number_is (Code section offset) within = refl
  number_is (Number n) within = refl
  number_is (TocBase file addend) within = ap (λ (x : ℕ). Some (plus_addend x addend)) (laid_is_base file within)
  number_is (WeakNone addend) within = refl

  -- ---- what two halves reach

  code_low : (at offset : ℕ) (x : ℤ) → x ≡ cast_signed w64 offset → offset < 2 ^ 64 → 0x10000000 ≤ at → at ≤ 0x60000000 →
      int_lt x (neg_ℤ (pos 0x10000000)) ≡ false → int_lt (pos 0x10000000) x ≡ false → (at + offset) % 2 ^ 64 ≤ 0x70000000
  code_low at offset x same fits from to least most =
      elim (cases_lt offset (2 ^ 63)) [
        | inl less ↦ (
            let low : x ≡ pos offset = same ∙ to_z_pos w64 offset less in
            omega (arith, ints, low, from, to, least, most))
        | inr more ↦ (
            let k : ℕ = 2 ^ 64 - suc offset in
            let back : offset ≡ 2 ^ 64 - suc k = omega (arith, fits, more) in
            let high : x ≡ negsuc k = same ∙ ap (cast_signed w64) back ∙ to_z-neg w64 k (omega (arith, more)) in
            omega (arith, ints, high, back, fits, from, to, least, most))
      ]

  reach_of : (n base : ℕ) → n ≤ 0x70000000 → base < 0x60000000 → InSigned 32 ((pos n -ℤ pos base) +ℤ pos 0x8000)
  reach_of n base below low = record { low = omega (arith, ints, below, low); high = omega (arith, ints, below, low) }

  code_case : (section offset base : ℕ) (text : List ℕ) → AreTextAddresses text → section < length text → offset < 2 ^ 64 →
      base < 0x60000000 →
      reaches_offset (cast_signed w64 offset) ≡ true →
      InSigned 32 ((pos ((slice_index text section + offset) % 2 ^ 64) -ℤ pos base) +ℤ pos 0x8000)
  code_case section offset base text addresses within fits low reach =
      let parts = and_parts (not (int_lt (cast_signed w64 offset) (neg_ℤ (pos 0x10000000))))
      (not (int_lt (pos 0x10000000) (cast_signed w64 offset))) reach in
      reach_of ((slice_index text section + offset) % 2 ^ 64) base
      (code_low (slice_index text section) offset (cast_signed w64 offset) refl fits (addresses.from section within)
      (addresses.low section within)
      (not_true (int_lt (cast_signed w64 offset) (neg_ℤ (pos 0x10000000))) parts.0)
      (not_true (int_lt (pos 0x10000000) (cast_signed w64 offset)) parts.1)) low

  number_case : (n base : ℕ) → reaches_number base (Some n) ≡ true → InSigned 32 ((pos n -ℤ pos base) +ℤ pos 0x8000)
  number_case n base reach =
      let x : ℤ = (pos n -ℤ pos base) +ℤ pos 0x8000 in
      let parts = and_parts (not (int_lt x (neg_ℤ (pos (2 ^ 31))))) (int_lt x (pos (2 ^ 31))) reach in
      let least = not_true (int_lt x (neg_ℤ (pos (2 ^ 31)))) parts.0 in
      let most = parts.1 in
      record { low = omega (arith, ints, least); high = omega (arith, ints, most) }

  told_case : (n base : ℕ) (number address : Option ℕ) → number ≡ address → address ≡ Some n → reaches_number base number ≡ true →
      InSigned 32 ((pos (unwrap_or address 0) -ℤ pos base) +ℤ pos 0x8000)
  told_case n base number address same some reach =
      let there : reaches_number base (Some n) ≡ true = ap (reaches_number base) (sym (same ∙ some)) ∙ reach in
      subst (λ (o : Option ℕ). InSigned 32 ((pos (unwrap_or o 0) -ℤ pos base) +ℤ pos 0x8000)) (sym some) (number_case n base there)

  -- from the TOC base of a file
  target_reached : (file : ℕ) (text : List ℕ) (target : Target) → file < length files → AreTextAddresses text →
      length text ≡ length (text_sections files) → base_of files span file < 0x60000000 → IsTargetOf files target → IsOffset target →
      reaches (laid_by files span) (base_of files span file) (Some target) ≡ true →
      InSigned 32 ((pos (address_of files span text target) -ℤ pos (base_of files span file)) +ℤ pos 0x8000)
  target_reached file text (Data piece addend) inside addresses texts low within fits reach =
      told_case (plus_addend (piece_address files span piece) addend) (base_of files span file)
      (number_of (laid_by files span) (Data piece addend)) (target_address files span (Data piece addend))
      (number_is (Data piece addend) within) refl reach
  target_reached file text (Code section offset) inside addresses texts low within fits reach =
      code_case section offset (base_of files span file) text addresses (omega (arith, within, texts)) fits low reach
  target_reached file text (Number n) inside addresses texts low within fits reach = number_case n (base_of files span file) reach
  target_reached file text (TocBase f addend) inside addresses texts low within fits reach =
      told_case (plus_addend (base_of files span f) addend) (base_of files span file)
      (number_of (laid_by files span) (TocBase f addend)) (target_address files span (TocBase f addend))
      (number_is (TocBase f addend) within) refl reach
  target_reached file text (WeakNone addend) inside addresses texts low within fits reach =
      number_case (plus_addend 0 addend) (base_of files span file) reach

  pub held_reached : (file : ℕ) (text : List ℕ) (o : Option Target) (target : Target) → file < length files → AreTextAddresses text →
      length text ≡ length (text_sections files) → base_of files span file < 0x60000000 → IsTargetOf files target →
      IsOffset target → o ≡ Some target →
      reaches (laid_by files span) (laid_base (laid_by files span) file) o ≡ true →
      InSigned 32 ((pos (held_by files span text o) -ℤ pos (base_of files span file)) +ℤ pos 0x8000)
  held_reached file text o target inside addresses texts low within fits some reach =
      let there : reaches (laid_by files span) (base_of files span file) (Some target) ≡ true =
      ap (λ (p : Option Target). reaches (laid_by files span) (base_of files span file) p) (sym some)
      ∙ ap (λ (b : ℕ). reaches (laid_by files span) b o) (sym (laid_is_base file inside)) ∙ reach in
      subst (λ (p : Option Target).
      InSigned 32 ((pos (held_by files span text p) -ℤ pos (base_of files span file)) +ℤ pos 0x8000)) (sym some)
      (target_reached file text target inside addresses texts low within fits there)

-- ---- words of orderly files

unsuited_case : (o : Option Kind) (kind : Kind) (word : ℕ) (s : Bool) → o ≡ Some kind → suits kind word ≡ s →
    is_unsuited o word ≡ false → s ≡ true
unsuited_case o kind word true some is none = refl
unsuited_case o kind word false some is none =
    let unsuited : is_unsuited o word ≡ true = ap (λ (p : Option Kind). is_unsuited p word) some ∙ ap not is in
    let never : true ≡ false = sym unsuited ∙ none in
    cc

pub none_passes : (b : Bool) (all : Bool) → (b ≡ true → all ≡ true) → not all ≡ true → b ≡ false
none_passes true true each none = cc
none_passes true false each none = let never = each refl in cc
none_passes false all each none = refl

-- a record of an orderly file stands on a word that suits its kind
pub word_suits : (files : List (List ℕ)) (r : RecordId) (kind : Kind) → IsRecord files r → kind_of files r ≡ Some kind →
    is_orderly files r.file ≡ true → suits kind (word_at files r) ≡ true
word_suits files r kind is known orderly =
    let b = file_at files r.file in
    let test : RecordId → Bool = λ q. is_unsuited (kind_of files q) (word_at files q) in
    let there : record_id r.file b r.table r.entry ≡ r =
    ap (λ (s : ℕ). record { file = r.file; table = r.table; entry = r.entry; section = s }) (sym is.section_is) in
    let none = none_passes (test r) (list_any test (items_in record_walk r.file b (e_shnum b)))
    (λ passes. table_passes test r.file b r.table (e_shnum b) is.table_in
    (entry_passes test r.file b r.table r.entry (record_count b r.table) is.within (ap test there ∙ passes)))
    orderly in
    unsuited_case (kind_of files r) kind (word_at files r) (suits kind (word_at files r)) known refl none

-- ---- targets of records

goes_case : (b : Bool) (o : Option Target) (t : Target) → (if b then o else None) ≡ Some t → o ≡ Some t
goes_case true o t is = is
goes_case false o t is = cc

target_case : (files : List (List ℕ)) (r : RecordId) (o : Option Kind) (t : Target) → target_by files r o ≡ Some t →
    target_of files r.file (facts_of files r).symbol (facts_of files r).addend ≡ Some t
target_case files r None t is = cc
target_case files r (Some kind) t is =
    goes_case (goes kind) (target_of files r.file (facts_of files r).symbol (facts_of files r).addend) t is

-- where a record goes, its symbol does
pub target_told : (files : List (List ℕ)) (r : RecordId) (t : Target) → record_target files r ≡ Some t →
    target_of files r.file (facts_of files r).symbol (facts_of files r).addend ≡ Some t
target_told files r t is = target_case files r (kind_of files r) t is

-- to something of the files
pub target_there : (files : List (List ℕ)) (r : RecordId) (t : Target) → set_refusal files ≡ None → IsRecord files r →
    record_target files r ≡ Some t → IsTargetOf files t
target_there files r t whole here is =
    let known = symbol_in_range (file_at files r.file) r.table r.entry
    (whole_file files r.file whole here.file_in).fault here.table_in here.within in
    target_in files r.file (facts_of files r).symbol (facts_of files r).addend t whole here.file_in known (target_told files r t is)

-- a record of a kind that goes somewhere does
pub target_goes : (files : List (List ℕ)) (r : RecordId) (kind : Kind) → records_refusal files ≡ None → IsRecord files r →
    kind_of files r ≡ Some kind → goes kind ≡ true → IsSome (record_target files r)
target_goes files r kind none here known does =
    let there = goes_somewhere files r none here kind known does in
    let same : record_target files r ≡ target_of files r.file (facts_of files r).symbol (facts_of files r).addend =
    ap (target_by files r) known
    ∙ ap (λ (b : Bool). if b then target_of files r.file (facts_of files r).symbol (facts_of files r).addend else None) does in
    subst IsSome (sym same) there

some_of : (o : Option Target) → IsSome o → (t : Target) × (o ≡ Some t)
some_of None some = cc
some_of (Some t) some = (t, refl)

-- what goes somewhere does so by its symbol
pub symbol_goes : (files : List (List ℕ)) (r : RecordId) (j : ℕ) (a : ℤ) → IsSome (record_target files r) →
    j ≡ (facts_of files r).symbol → a ≡ (facts_of files r).addend → target_of files r.file j a ≡ record_target files r
symbol_goes files r j a some symbol addend =
    let t = some_of (record_target files r) some in
    ap (λ (n : ℕ). target_of files r.file n a) symbol ∙ ap (target_of files r.file (facts_of files r).symbol) addend
    ∙ target_told files r t.0 t.1 ∙ sym t.1
