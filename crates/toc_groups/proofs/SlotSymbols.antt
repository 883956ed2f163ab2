-- The symbols of slots are named by records that load from slots, so each goes somewhere.
use Rattle.std.proofs.Common.{ℕ, zero, suc, ◌≡◌, ◌<◌, ◌≤◌, ◌+◌, Bool, true, false, List, [], ◌∷◌, ◌++◌, length, Some, None, slice_get, get_or, ap, sym, subst, ◌∙◌, refl, arith, if◌then◌else◌}
use Rattle.std.specs.Prelude.{IsSome, pos}
use Rattle.std.specs.List.{AllByRecursion, list_any}
use Rattle.std.proofs.lemmas.Bool.Decides.{nat_tests}
use Rattle.elf64_records.specs.FileHeader.{e_shnum}
use Rattle.elf64_records.specs.Records.{record_count, rela_of, r_type, r_symbol}
use Rattle.elf64_records.specs.Symbols.{symbol_count}
use Rattle.elf64_records.specs.laws.Whole.{symbol_in_range}
use Rattle.object_set.specs.declared.places.SymbolId.{SymbolId}
use Rattle.object_set.specs.Files.{file_at}
use Rattle.object_set.specs.Refusals.{set_refusal}
use Rattle.object_set.specs.Walks.{items_in, record_id, IsRecord}
use Rattle.reloc_fields.specs.declared.kind.Kind.TheVariants.{GotPcrel34}
use Rattle.symbol_table.specs.Fields.{kind_numbered}
use Rattle.symbol_table.specs.Records.{records_refusal}
use Rattle.symbol_table.specs.Targets.{target_of}
use Rattle.symbol_table.proofs.KindNumbers.{kind_found}
use Rattle.toc_groups.specs.Slots.{is_got_load, symbol_id, shares_slot, named_at, named_by, named_walk, named_symbols, with_slot, with_slots, slots_of}
use Rattle.toc_groups.specs.Data.{group_slots}
use Rattle.toc_groups.specs.Groups.{group_at, group_count}
use Rattle.toc_groups.specs.Contents.{IsSlot}
use Rattle.toc_groups.specs.Plans.{LaidData, IsPlan}
use Rattle.toc_groups.proofs.Planning.{slice_get_at}
use Rattle.toc_groups.proofs.Reading.{slots_read}
use Rattle.toc_groups.proofs.Bounds.{whole_file}
use Rattle.toc_groups.proofs.Every.{all_append}
use Rattle.toc_groups.proofs.RecordValues.{record_goes}
use Rattle.toc_groups.proofs.GroupOrder.{among_end}

-- a symbol of one of the files that goes somewhere
pub record Goes (files : List (List ℕ)) (s : SymbolId) : Type 0 where
  pub file_in : s.file < length files
  pub within : s.symbol < symbol_count (file_at files s.file)
  pub stands : IsSome (target_of files s.file s.symbol (pos 0))

all_at : {X : Type 0} (P : X → Type 0) (xs : List X) (k : ℕ) (x : X) → AllByRecursion P xs → slice_get xs k ≡ Some x → P x
all_at P [] k x all found = cc
all_at P (y ∷ xs) zero x all found = let same : y ≡ x = cc in subst P same all.0
all_at P (y ∷ xs) (suc k) x all found = all_at P xs k x all.1 found

module _ (files : List (List ℕ)) (whole : set_refusal files ≡ None) (none : records_refusal files ≡ None) where
  one_goes : (file i k : ℕ) (t : Bool) → file < length files → i < e_shnum (file_at files file) → k < record_count (file_at files file) i →
      is_got_load (r_type (file_at files file) i k) ≡ t →
      AllByRecursion (Goes files) (if t then symbol_id file (r_symbol (file_at files file) i k) ∷ [] else [])
  one_goes file i k true within inside few is =
      let b = file_at files file in
      let r = record_id file b i k in
      let number : 133 ≡ r_type b i k = grind (arith, nat_tests, is) in
      let kind : kind_numbered (rela_of b i k).kind ≡ Some GotPcrel34 = kind_found (r_type b i k) GotPcrel34 number in
      let there : IsRecord files r = record { file_in = within; table_in = inside; within = few; section_is = refl } in (
        record {
          file_in = within;
          within = symbol_in_range b i k (whole_file files file whole within).fault inside few;
          stands = record_goes files r GotPcrel34 none there kind (omega arith) refl;
        },
        tt,
      )
  one_goes file i k false within inside few is = tt

  by_go : (file i n : ℕ) → file < length files → i < e_shnum (file_at files file) → n ≤ record_count (file_at files file) i →
      AllByRecursion (Goes files) (named_by file (file_at files file) i n)
  by_go file i zero within inside few = tt
  by_go file i (suc n) within inside few =
      let b = file_at files file in
      all_append (Goes files) (named_by file b i n) (named_at file b i n) (by_go file i n within inside (omega (arith, few)))
      (one_goes file i n (is_got_load (r_type b i n)) within inside (omega (arith, few)) refl)

  in_go : (file n : ℕ) → file < length files → n ≤ e_shnum (file_at files file) →
      AllByRecursion (Goes files) (items_in named_walk file (file_at files file) n)
  in_go file zero within few = tt
  in_go file (suc n) within few =
      let b = file_at files file in
      all_append (Goes files) (items_in named_walk file b n) (named_by file b n (record_count b n))
      (in_go file n within (omega (arith, few)))
      (by_go file n (record_count b n) within (omega (arith, few)) (omega arith))

  with_case : (slots : List SymbolId) (s : SymbolId) (t : Bool) → AllByRecursion (Goes files) slots → Goes files s →
      AllByRecursion (Goes files) (if t then slots else slots ++ s ∷ [])
  with_case slots s true are this = are
  with_case slots s false are this = all_append (Goes files) slots (s ∷ []) are (this, tt)

  with_go : (slots named : List SymbolId) → AllByRecursion (Goes files) slots → AllByRecursion (Goes files) named →
      AllByRecursion (Goes files) (with_slots files slots named)
  with_go slots [] are these = are
  with_go slots (s ∷ named) are these =
      with_go (with_slot files slots s) named (with_case slots s (list_any (shares_slot files s) slots) are these.0) these.1

  slots_go : (first n : ℕ) → first + n ≤ length files → AllByRecursion (Goes files) (slots_of files first n)
  slots_go first zero within = tt
  slots_go first (suc n) within =
      let file = first + n in
      with_go (slots_of files first n) (named_symbols files file) (slots_go first n (omega (arith, within)))
      (in_go file (e_shnum (file_at files file)) (omega (arith, within)) (omega arith))

  -- each slot's symbol does
  pub slot_goes : (span g k : ℕ) (s : SymbolId) → slice_get (group_slots files span g) k ≡ Some s → Goes files s
  slot_goes span g k s found =
      let group = group_at files span g in
      all_at (Goes files) (group_slots files span g) k s (slots_go group.first group.count (among_end files span g (length files))) found

-- what is read of a plan for a slot
pub record SlotRead (files : List (List ℕ)) (span g k : ℕ) (xs : List SymbolId) : Type 0 where
  pub within : k < length xs
  pub slot : IsSlot files span g k (get_or xs k (record { file = 0; symbol = 0 }))
  pub goes : Goes files (get_or xs k (record { file = 0; symbol = 0 }))

pub slot_read : (files : List (List ℕ)) (span : ℕ) (plan : LaidData) (g k : ℕ) (xs : List SymbolId) → set_refusal files ≡ None →
    records_refusal files ≡ None → IsPlan files span plan → g < group_count files span → k < length (group_slots files span g) →
    slice_get plan.named g ≡ Some xs → SlotRead files span g k xs
slot_read files span plan g k xs whole none is group inside read =
    let same = slots_read files span plan is g xs group read in
    let long = ap (λ (l : List SymbolId). length l) same in
    let within : k < length xs = omega (arith, long, inside) in
    let s = get_or xs k (record { file = 0; symbol = 0 }) in
    let found : slice_get (group_slots files span g) k ≡ Some s =
    ap (λ (l : List SymbolId). slice_get l k) (sym same) ∙ slice_get_at xs k (record { file = 0; symbol = 0 }) within in
    record {
      within = within;
      slot = record { group_in = group; symbol = found };
      goes = slot_goes files whole none span g k s found;
    }
