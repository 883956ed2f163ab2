-- How large sections are that lie in their files, and how many sections, slots and bytes files and groups have.
use Rattle.std.proofs.Common.{ℕ, zero, suc, ◌≡◌, ◌≢◌, ◌<◌, ◌≤◌, ◌+◌, ◌-◌, ◌*◌, ◌/◌, ◌^◌, Bool, true, false, not, ◌==◌, List, [], ◌∷◌, ◌++◌}
use Rattle.std.proofs.Common.{length, length-append, Some, None, if◌then◌else◌, ap, sym, ◌∙◌, refl, arith}
use Rattle.std.specs.Prelude.{slice_range}
use Rattle.std.specs.Option.{option_map}
use Rattle.std.proofs.lemmas.Bool.Decides.{nat_tests}
use Rattle.std.specs.List.{AllByRecursion, list_any}
use Rattle.elf64_records.specs.First.{◌orelse◌, when}
use Rattle.elf64_records.specs.laws.First.{both_none}
use Rattle.elf64_records.specs.laws.Whole.{sections_whole, section_in_file}
use Rattle.elf64_records.specs.FileHeader.{e_shnum, e_shoff}
use Rattle.elf64_records.specs.Sections.{sh_size, sh_offset, has_bytes, section_bytes}
use Rattle.elf64_records.specs.Records.{record_count, has_records, r_type, r_symbol}
use Rattle.elf64_records.specs.Faults.{object_fault, header_fault, kind_fault, has_section_table, sections_fault, symbols_fault, first_section, rela_fault, range_fault, name_fault}
use Rattle.elf64_records.specs.declared.fault.ElfFault.TheVariants.{BadTable}
use Rattle.elf64_records.specs.declared.fault.Place.TheVariants.{File}
use Rattle.object_set.specs.declared.sort.Sort.{Sort}
use Rattle.object_set.specs.declared.sort.Sort.TheVariants.{Text, Zeroed, Toc, Writable, ReadOnly, Dropped}
use Rattle.object_set.specs.declared.places.SymbolId.{SymbolId}
use Rattle.object_set.specs.Files.{file_at}
use Rattle.object_set.specs.Sections.{sort_of, is_kept_sort}
use Rattle.object_set.specs.Refusals.{set_refusal, file_refusal, length_refusal, fault_refusal, sections_refusal, symbols_refusal, refusal_of}
use Rattle.object_set.specs.laws.Fit.{file_fit, section_fit}
use Rattle.object_set.specs.Walks.{items_in}
use Rattle.layout_rounds.proofs.Aligned.{aligned_most}
use Rattle.toc_groups.specs.declared.extents.Extent.{Extent}
use Rattle.toc_groups.specs.Runs.{placed, behind, run_end}
use Rattle.toc_groups.specs.Sections.{same_sort, section_extent, extent_at, sort_walk}
use Rattle.toc_groups.specs.Slots.{is_got_load, symbol_id, shares_slot, named_at, named_by, named_walk, named_symbols, with_slot, with_slots, slots_of}
use Rattle.toc_groups.specs.Groups.{tocs_of}
use Rattle.toc_groups.specs.inside.Ends.{IsTocExtent}
use Rattle.toc_groups.proofs.Every.{all_append, all_weaker}

-- ---- a file of a set

pub record IsWholeFile (b : List ℕ) : Type 0 where
  pub short : length b ≤ 0x10000000
  pub fault : object_fault b ≡ None

no_fault : (file : ℕ) (b : List ℕ) → fault_refusal file b ≡ None → object_fault b ≡ None
unfolding fault_refusal
no_fault file b fit = elim (object_fault b) as
    (λ o. option_map (refusal_of file) o ≡ None → o ≡ None) [ None ↦ λ _. refl | Some fault ↦ λ some. cc ] fit

parts_whole : (file : ℕ) (b : List ℕ) → file_refusal file b ≡ None → IsWholeFile b
unfolding file_refusal
parts_whole file b fit =
    let first = both_none (length_refusal file b)
    (fault_refusal file b orelse (sections_refusal file b orelse symbols_refusal file b)) fit in
    let second = both_none (fault_refusal file b) (sections_refusal file b orelse symbols_refusal file b) first.1 in
    let short = first.0 in
    record { short = grind (arith, nat_tests, short); fault = no_fault file b second.0 }

pub whole_file : (files : List (List ℕ)) (file : ℕ) → set_refusal files ≡ None → file < length files → IsWholeFile (file_at files file)
whole_file files file whole within = parts_whole file (file_at files file) (file_fit files file whole within)

holds_case : (b : Bool) → (if not b then Some (BadTable File) else None) ≡ None → b ≡ true
holds_case true is = refl
holds_case false is = cc

table_within : (b : List ℕ) → has_section_table b ≡ true → e_shoff b + 64 * e_shnum b ≤ length b
table_within b has = grind (arith, nat_tests, has)

-- its section headers lie in it
pub sections_few : (b : List ℕ) → IsWholeFile b → e_shnum b ≤ 0x400000
sections_few b whole =
    let header = (both_none (header_fault b) (sections_fault b orelse (symbols_fault b orelse first_section b (rela_fault b)))
    whole.fault).0 in
    let table = (both_none (kind_fault b) (when (not (has_section_table b)) (BadTable File)) header).1 in
    omega (arith, table_within b (holds_case (has_section_table b) table), whole.short)

-- and so do the bytes of a section that has any
pub section_small : (b : List ℕ) (i : ℕ) → IsWholeFile b → i < e_shnum b → has_bytes b i ≡ true → sh_size b i ≤ 0x10000000
section_small b i whole within has =
    let ranges = (both_none (first_section b (range_fault b)) (first_section b (name_fault b)) (sections_whole b whole.fault)).0 in
    omega (arith, section_in_file b i ranges within has, whole.short)

stored_case : (b : List ℕ) (i : ℕ) (has : Bool) → IsWholeFile b → i < e_shnum b → has_bytes b i ≡ has →
    length (section_bytes b i) ≡ sh_size b i → sh_size b i ≤ 0x10000000
stored_case b i true whole within is stored = section_small b i whole within is
stored_case b i false whole within is stored =
    let empty : section_bytes b i ≡ [] =
    ap (λ (t : Bool). if t then slice_range b (sh_offset b i) (sh_offset b i + sh_size b i) else []) is in
    omega (arith, stored, ap length empty)

kept_zeroed : Zeroed ≢ Toc
kept_zeroed is = cc

-- ---- `.toc` sections

pub record IsSmallToc (piece : Extent) : Type 0 where
  pub fit : IsTocExtent piece
  pub size : piece.size ≤ 0x10000000

toc_is : (sort : Sort) → same_sort sort Toc ≡ true → sort ≡ Toc
toc_is Text is = cc
toc_is Zeroed is = cc
toc_is Toc is = refl
toc_is Writable is = cc
toc_is ReadOnly is = cc
toc_is Dropped is = cc

-- a `.toc` section of a file
pub small_toc : (files : List (List ℕ)) (file i : ℕ) → set_refusal files ≡ None → file < length files → i < e_shnum (file_at files file) →
    same_sort (sort_of (file_at files file) i) Toc ≡ true → IsSmallToc (section_extent (file_at files file) i)
small_toc files file i whole within inside is =
    let b = file_at files file in
    let toc = toc_is (sort_of b i) is in
    let kept : is_kept_sort (sort_of b i) ≡ true = ap is_kept_sort toc in
    let fit = section_fit file b i (file_fit files file whole within) inside kept in
    let other : sort_of b i ≢ Zeroed = λ zeroed. kept_zeroed (sym zeroed ∙ toc) in
    record {
      fit = record { power = fit.align; most = fit.toc_align_most toc };
      size = stored_case b i (has_bytes b i) (whole_file files file whole within) inside refl (fit.stored other);
    }

toc_one : (files : List (List ℕ)) (file i : ℕ) (t : Bool) → set_refusal files ≡ None → file < length files →
    i < e_shnum (file_at files file) → same_sort (sort_of (file_at files file) i) Toc ≡ t →
    AllByRecursion IsSmallToc (if t then section_extent (file_at files file) i ∷ [] else [])
    × (length (if t then section_extent (file_at files file) i ∷ [] else []) ≤ 1)
toc_one files file i true whole within inside is = ((small_toc files file i whole within inside is, tt), omega arith)
toc_one files file i false whole within inside is = (tt, omega arith)

-- those of the first sections of a file
pub tocs_in : (files : List (List ℕ)) (file n : ℕ) → set_refusal files ≡ None → file < length files → n ≤ e_shnum (file_at files file) →
    AllByRecursion IsSmallToc (items_in (sort_walk Toc) file (file_at files file) n)
    × (length (items_in (sort_walk Toc) file (file_at files file) n) ≤ n)
tocs_in files file zero whole within few = (tt, omega arith)
tocs_in files file (suc n) whole within few =
    let b = file_at files file in
    let before = tocs_in files file n whole within (omega (arith, few)) in
    let this = toc_one files file n (same_sort (sort_of b n) Toc) whole within (omega (arith, few)) refl in
    let long = length-append (items_in (sort_walk Toc) file b n) (extent_at Toc file b n) in (
      all_append IsSmallToc (items_in (sort_walk Toc) file b n) (extent_at Toc file b n) before.0 this.0,
      omega (arith, before.1, this.1, long),
    )

-- and of files
pub tocs_of_files : (files : List (List ℕ)) (first n : ℕ) → set_refusal files ≡ None → first + n ≤ length files →
    AllByRecursion IsSmallToc (tocs_of files first n) × (length (tocs_of files first n) ≤ n * 0x400000)
tocs_of_files files first zero whole within = (tt, omega arith)
tocs_of_files files first (suc n) whole within =
    let file = first + n in
    let b = file_at files file in
    let inside : file < length files = omega (arith, within) in
    let before = tocs_of_files files first n whole (omega (arith, within)) in
    let this = tocs_in files file (e_shnum b) whole inside (omega arith) in
    let few = sections_few b (whole_file files file whole inside) in
    let long = length-append (tocs_of files first n) (items_in (sort_walk Toc) file b (e_shnum b)) in (
      all_append IsSmallToc (tocs_of files first n) (items_in (sort_walk Toc) file b (e_shnum b)) before.0 this.0,
      omega (arith, before.1, this.1, long, few),
    )

behind_case : (end : ℕ) (piece : Extent) (none : Bool) → placed end piece ≤ end + (piece.align - 1) →
    (if none then end else placed end piece + piece.size) ≤ end + (piece.align - 1) + piece.size
behind_case end piece true low = omega arith
behind_case end piece false low = omega (arith, low)

-- a piece takes its size, and less than its alignment before it
pub behind_most : (end : ℕ) (piece : Extent) → behind end piece ≤ end + (piece.align - 1) + piece.size
behind_most end piece = behind_case end piece (piece.size == 0) (aligned_most end piece.align)

pub run_most : (pieces : List Extent) (end : ℕ) → AllByRecursion IsSmallToc pieces → run_end end pieces ≤ end + length pieces * 0x10000100
run_most [] end are = omega arith
run_most (x ∷ xs) end are =
    let first = behind_most end x in
    let rest = run_most xs (behind end x) are.1 in
    omega (arith, first, rest, are.0.size, are.0.fit.most)

pub tocs_fit : (files : List (List ℕ)) (first n : ℕ) → set_refusal files ≡ None → first + n ≤ length files →
    AllByRecursion IsTocExtent (tocs_of files first n)
tocs_fit files first n whole within =
    all_weaker IsSmallToc IsTocExtent (λ x small. small.fit) (tocs_of files first n) (tocs_of_files files first n whole within).0

-- so ends stay low
pub tocs_low : (files : List (List ℕ)) (first n s start : ℕ) → set_refusal files ≡ None → first + n < length files → length files ≤ 4096 →
    s ≤ e_shnum (file_at files (first + n)) → start < 0x100 →
    run_end start (tocs_of files first n ++ items_in (sort_walk Toc) (first + n) (file_at files (first + n)) s) < 2 ^ 63
tocs_low files first n s start whole within few sections low =
    let file = first + n in
    let b = file_at files file in
    let before = tocs_of_files files first n whole (omega (arith, within)) in
    let this = tocs_in files file s whole within sections in
    let all = all_append IsSmallToc (tocs_of files first n) (items_in (sort_walk Toc) file b s) before.0 this.0 in
    let long = length-append (tocs_of files first n) (items_in (sort_walk Toc) file b s) in
    let most = run_most (tocs_of files first n ++ items_in (sort_walk Toc) file b s) start all in
    let shnum = sections_few b (whole_file files file whole within) in
    omega (arith, most, long, before.1, this.1, shnum, sections, few, within, low)

-- ---- slots

records_case : (b : List ℕ) (i : ℕ) (has : Bool) → IsWholeFile b → i < e_shnum b → has_records b i ≡ has →
    (if has then sh_size b i / 24 else 0) ≤ 0x1000000
records_case b i true whole within is =
    let rela : has_bytes b i ≡ true = grind (arith, nat_tests, is) in
    let small = section_small b i whole within rela in
    omega (arith, small)
records_case b i false whole within is = omega arith

pub records_few : (b : List ℕ) (i : ℕ) → IsWholeFile b → i < e_shnum b → record_count b i ≤ 0x1000000
records_few b i whole within = records_case b i (has_records b i) whole within refl

one_case : (s : SymbolId) (t : Bool) → length (if t then s ∷ [] else []) ≤ 1
one_case s true = omega arith
one_case s false = omega arith

named_by_most : (file : ℕ) (b : List ℕ) (i n : ℕ) → length (named_by file b i n) ≤ n
named_by_most file b i zero = omega arith
named_by_most file b i (suc n) =
    let long = length-append (named_by file b i n) (named_at file b i n) in
    let one = one_case (symbol_id file (r_symbol b i n)) (is_got_load (r_type b i n)) in
    omega (arith, named_by_most file b i n, long, one)

named_in_most : (file : ℕ) (b : List ℕ) (n : ℕ) → IsWholeFile b → n ≤ e_shnum b → length (items_in named_walk file b n) ≤ n * 0x1000000
named_in_most file b zero whole few = omega arith
named_in_most file b (suc n) whole few =
    let long = length-append (items_in named_walk file b n) (named_by file b n (record_count b n)) in
    let this = named_by_most file b n (record_count b n) in
    let most = records_few b n whole (omega (arith, few)) in
    omega (arith, named_in_most file b n whole (omega (arith, few)), long, this, most)

with_case : (slots : List SymbolId) (s : SymbolId) (t : Bool) → length (if t then slots else slots ++ s ∷ []) ≤ length slots + 1
with_case slots s true = omega arith
with_case slots s false = omega (arith, length-append slots (s ∷ []))

with_slots_most : (files : List (List ℕ)) (slots named : List SymbolId) →
    length (with_slots files slots named) ≤ length slots + length named
with_slots_most files slots [] = omega arith
with_slots_most files slots (s ∷ named) =
    let this = with_case slots s (list_any (shares_slot files s) slots) in
    omega (arith, this, with_slots_most files (with_slot files slots s) named)

-- files have so many slots at most
pub slots_few : (files : List (List ℕ)) (first n : ℕ) → set_refusal files ≡ None → first + n ≤ length files →
    length (slots_of files first n) ≤ n * 0x400000000000
slots_few files first zero whole within = omega arith
slots_few files first (suc n) whole within =
    let file = first + n in
    let b = file_at files file in
    let is_whole = whole_file files file whole (omega (arith, within)) in
    let named = named_in_most file b (e_shnum b) is_whole (omega arith) in
    let few = sections_few b is_whole in
    omega (
      arith,
      slots_few files first n whole (omega (arith, within)),
      with_slots_most files (slots_of files first n) (named_symbols files file),
      named,
      few,
    )
