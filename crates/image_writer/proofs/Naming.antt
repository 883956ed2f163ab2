-- A number is where at most one foldable slot of a file begins.
use Rattle.std.proofs.Common.{ℕ, ◌≡◌, ◌<◌, ◌≤◌, ◌+◌, ◌%◌, Bool, true, false, not, ◌&&◌, eqb, List, [], ◌∷◌, filter, Option, None, Some, ap, sym, ◌∙◌, subst, refl, arith, if◌then◌else◌}
use Rattle.std.specs.Prelude.{◌==◌, IsSome}
use Rattle.std.specs.Option.{option_map}
use Rattle.std.specs.List.{All, list_any}
use Rattle.std.proofs.lemmas.Bool.{and_parts}
use Rattle.std.proofs.lemmas.Bool.Decides.{nat_tests}
use Rattle.std.proofs.lemmas.List.Elements.{All-nil, All-cons, All-head, All-tail}
use Rattle.elf64_records.specs.FileHeader.{e_shnum}
use Rattle.elf64_records.specs.Records.{record_count, rela_of}
use Rattle.elf64_records.specs.Sections.{sh_info, sh_size}
use Rattle.object_set.specs.declared.places.RecordId.{RecordId}
use Rattle.object_set.specs.declared.sort.Sort.{Sort}
use Rattle.object_set.specs.declared.sort.Sort.TheVariants.{Text, Zeroed, Toc, Writable, ReadOnly, Dropped}
use Rattle.object_set.specs.Files.{file_at}
use Rattle.object_set.specs.Refusals.{set_refusal}
use Rattle.object_set.specs.Sections.{sort_of}
use Rattle.object_set.specs.Walks.{IsRecord, record_walk, record_id, items_in}
use Rattle.object_set.specs.laws.Walks.{all_records_in}
use Rattle.reloc_fields.specs.declared.kind.Kind.TheVariants.{Addr64}
use Rattle.symbol_table.specs.Fields.{field_of, meets, width_in}
use Rattle.symbol_table.specs.Records.{records_refusal}
use Rattle.symbol_table.specs.laws.Sections.{record_about}
use Rattle.toc_groups.specs.Parts.{Part, of_section, of_slot, of_common, Takes, IsTargetOf, is_laid_sort}
use Rattle.toc_groups.specs.Plans.{LaidData, IsPlan, address_in}
use Rattle.toc_groups.proofs.Reading.{address_is}
use Rattle.toc_rewrite.specs.declared.found.Slot.{Slot}
use Rattle.toc_rewrite.specs.Folded.{FoldedSlots, IsNamed, AreFolds}
use Rattle.toc_rewrite.specs.Laid.{LaidFiles, base_of, section_address as laid_section}
use Rattle.toc_rewrite.specs.Records.{facts_of, kind_of, all_records, record_target, record_number, number_in}
use Rattle.toc_rewrite.specs.Folds.{is_address, is_toc_sort, is_same_record, fills_slot, fills_foldable, reaches, slot_address, slot_records}
use Rattle.toc_rewrite.specs.laws.Entries.{table_passes, entry_passes, record_passes}
use Rattle.toc_rewrite.specs.laws.Slots.{foldable_parts, named_slot, none_named}
use Rattle.toc_rewrite.proofs.SoundRecords.{sound_field, address_kind}
use Rattle.symbol_table.specs.declared.target.Target.{Target}
use Rattle.toc_rewrite.specs.Folds.{slot_at}
use Rattle.image_writer.specs.Rewriting.{laid_by}
use Rattle.image_writer.specs.TocLoads.{slot_distance, named_distance}
use Rattle.image_writer.proofs.Finding.{some_first, none_first, any_picked, found_is as first_is}
use Rattle.image_writer.proofs.Slots.{section_is, none_passes, number_is}

-- a part of the table of contents is data
toc_laid : (sort : Sort) → is_toc_sort sort ≡ true → is_laid_sort sort ≡ true
toc_laid Toc is = refl
toc_laid Text is = cc
toc_laid Zeroed is = refl
toc_laid Writable is = refl
toc_laid ReadOnly is = refl
toc_laid Dropped is = cc

number_of_part : Part → ℕ
number_of_part (of_section file i) = i
number_of_part (of_slot g k) = k
number_of_part (of_common c) = c

same_section : (file i f j : ℕ) → of_section file i ≡ of_section f j → i ≡ j
unfolding number_of_part
same_section file i f j same = ap number_of_part same

-- records by their parts
same_record : (q r : RecordId) → q.file ≡ r.file → q.table ≡ r.table → q.entry ≡ r.entry → q.section ≡ r.section → q ≡ r
same_record q r file table entry section =
    ap (λ (n : ℕ). record { file = n; table = q.table; entry = q.entry; section = q.section }) file
    ∙ ap (λ (n : ℕ). record { file = r.file; table = n; entry = q.entry; section = q.section }) table
    ∙ ap (λ (n : ℕ). record { file = r.file; table = r.table; entry = n; section = q.section }) entry
    ∙ ap (λ (n : ℕ). record { file = r.file; table = r.table; entry = r.entry; section = n }) section

same_entry : (q r : RecordId) → is_same_record q r ≡ true → (q.table ≡ r.table) × (q.entry ≡ r.entry)
same_entry q r is = (grind (arith, nat_tests, is), grind (arith, nat_tests, is))

lone_case : (same meets : Bool) → meets ≡ true → (not same && meets) ≡ false → same ≡ true
lone_case true meets there none = refl
lone_case false true there none = cc
lone_case false false there none = cc

module _ (files : List (List ℕ)) (span : ℕ) (plan : LaidData) (is : IsPlan files span plan) (whole : set_refusal files ≡ None)
    (none : records_refusal files ≡ None) (apart : (a : ℕ) (p q : Part) → Takes files span p a → Takes files span q a → p ≡ q) where
  -- what a record has that fills a slot
  record IsSlotRecord (s : RecordId) : Type 0 where
    known : kind_of files s ≡ Some Addr64
    toc : is_toc_sort (sort_of (file_at files s.file) s.section) ≡ true
    within : s.section < e_shnum (file_at files s.file)
    lies : (facts_of files s).offset + 8 ≤ sh_size (file_at files s.file) s.section

  slot_record : (s : RecordId) → IsRecord files s → fills_slot files s ≡ true → IsSlotRecord s
  slot_record s here fills =
      let b = file_at files s.file in
      let first = and_parts (is_address (kind_of files s) && is_toc_sort (sort_of b s.section))
      ((facts_of files s).offset % 8 == 0) fills in
      let second = and_parts (is_address (kind_of files s)) (is_toc_sort (sort_of b s.section)) first.0 in
      let known = address_kind (kind_of files s) second.0 in
      record {
        known = known;
        toc = second.1;
        within = (record_about files s whole here).within;
        lies = (sound_field files s none here Addr64 known (omega arith)).within;
      }

  -- its first byte is one of its section's
  takes : (s : RecordId) → IsRecord files s → IsSlotRecord s →
      Takes files span (of_section s.file s.section) (slot_address (laid_by files span) s)
  takes s here fills =
      let address = section_is files span plan is s.file s.section here.file_in fills.within in
      let lies = fills.lies in
      record {
        is = (here.file_in, fills.within, toc_laid (sort_of (file_at files s.file) s.section) fills.toc);
        covers = record { from = omega (arith, address); below = omega (arith, address, lies) };
      }

  -- two that begin at one address are one
  one_slot : (s r : RecordId) → IsRecord files s → IsRecord files r → fills_foldable (laid_by files span) s ≡ true →
      fills_foldable (laid_by files span) r ≡ true → s.file ≡ r.file →
      slot_address (laid_by files span) s ≡ slot_address (laid_by files span) r → s ≡ r
  one_slot s r s_in r_in s_folds r_folds file same =
      let laid = laid_by files span in
      let b = file_at files r.file in
      let s_parts = foldable_parts laid s s_folds in
      let r_parts = foldable_parts laid r r_folds in
      let s_slot = slot_record s s_in s_parts.fills in
      let r_slot = slot_record r r_in r_parts.fills in
      let both = apart (slot_address laid r) (of_section s.file s.section) (of_section r.file r.section)
      (subst (Takes files span (of_section s.file s.section)) same (takes s s_in s_slot)) (takes r r_in r_slot) in
      let section = same_section s.file s.section r.file r.section both in
      let begins : laid_section laid s.file s.section ≡ laid_section laid r.file r.section =
      ap (λ (f : ℕ). laid_section laid f s.section) file ∙ ap (laid_section laid r.file) section in
      let offset : (facts_of files s).offset ≡ (facts_of files r).offset = omega (arith, begins, same) in
      let own : record_id r.file b s.table s.entry ≡ s =
      same_record (record_id r.file b s.table s.entry) s (sym file) refl refl
      (ap (λ (f : ℕ). sh_info (file_at files f) s.table) (sym file) ∙ sym s_in.section_is) in
      let test : RecordId → Bool = λ q. not (is_same_record q r) && meets r.section (facts_of files r).offset 8 (field_of b q) in
      let fails = none_passes (test s) (list_any test (items_in record_walk r.file b (e_shnum b)))
      (λ passes. table_passes test r.file b s.table (e_shnum b) (subst (λ (f : ℕ). s.table < e_shnum (file_at files f)) file s_in.table_in)
      (entry_passes test r.file b s.table s.entry (record_count b s.table)
      (subst (λ (f : ℕ). s.entry < record_count (file_at files f) s.table) file s_in.within) (ap test own ∙ passes)))
      r_parts.alone in
      let kind : (field_of b s).width ≡ 8 =
      ap (λ (f : ℕ). (field_of (file_at files f) s).width) (sym file) ∙ ap width_in s_slot.known in
      let start : (field_of b s).start ≡ (facts_of files r).offset =
      ap (λ (f : ℕ). (rela_of (file_at files f) s.table s.entry).offset) (sym file) ∙ offset in
      let there : meets r.section (facts_of files r).offset 8 (field_of b s) ≡ true = grind (arith, nat_tests, section, kind, start) in
      let entry = same_entry s r (lone_case (is_same_record s r)
      (meets r.section (facts_of files r).offset 8 (field_of b s)) there fails) in
      same_record s r file entry.0 entry.1 section

  -- the slot of a file that begins at a number
  there_case : (file number f a : ℕ) → (f == file && a == number) ≡ true → (f ≡ file) × (a ≡ number)
  there_case file number f a passes = (grind (arith, nat_tests, passes), grind (arith, nat_tests, passes))

  here_case : (file number f a : ℕ) → f ≡ file → a ≡ number → (f == file && a == number) ≡ true
  here_case file number f a same begins = grind (arith, nat_tests)

  pub record IsFolded (s : RecordId) : Type 0 where
    pub within : IsRecord files s
    pub folds : fills_foldable (laid_by files span) s ≡ true

  folded_case : (b : Bool) (x : RecordId) (xs : List RecordId) → fills_foldable (laid_by files span) x ≡ b → IsRecord files x →
      All IsFolded xs → All IsFolded (if b then x ∷ xs else xs)
  folded_case false x xs folds within all = all
  folded_case true x xs folds within all = All-cons IsFolded x xs (record { within = within; folds = folds }) all

  folded_in : (xs : List RecordId) → All (IsRecord files) xs → All IsFolded (filter (fills_foldable (laid_by files span)) xs)
  folded_in [] all = All-nil IsFolded
  folded_in (x ∷ xs) all =
      folded_case (fills_foldable (laid_by files span) x) x (filter (fills_foldable (laid_by files span)) xs) refl
      (All-head (IsRecord files) x xs all) (folded_in xs (All-tail (IsRecord files) x xs all))

  -- what is found there
  pub record IsFoldedIn (file : ℕ) (s : RecordId) : Type 0 where
    pub within : IsRecord files s
    pub folds : fills_foldable (laid_by files span) s ≡ true
    pub file_is : s.file ≡ file

  pub found_is : (s : RecordId) (file : ℕ) (number : Option ℕ) →
      slot_at (laid_by files span) (slot_records (laid_by files span)) file number ≡ Some s → IsFoldedIn file s
  found_is s file None found = cc
  found_is s file (Some number) found =
      let test : RecordId → Bool = λ r. r.file == file && slot_address (laid_by files span) r == number in
      let one = first_is test (λ r. r) IsFolded (slot_records (laid_by files span)) s
      (folded_in (all_records files) (all_records_in files)) found in
      let there = there_case file number one.one.file (slot_address (laid_by files span) one.one) one.passes in
      record {
        within = subst (IsRecord files) one.answer_is one.is.within;
        folds = ap (fills_foldable (laid_by files span)) (sym one.answer_is) ∙ one.is.folds;
        file_is = ap (λ (r : RecordId). r.file) (sym one.answer_is) ∙ there.0;
      }

  pub slot_found : (s : RecordId) (file number : ℕ) → IsRecord files s → fills_foldable (laid_by files span) s ≡ true → s.file ≡ file →
      slot_address (laid_by files span) s ≡ number →
      slot_at (laid_by files span) (slot_records (laid_by files span)) file (Some number) ≡ Some s
  slot_found s file number within folds same begins =
      let laid = laid_by files span in
      let test : RecordId → Bool = λ r. r.file == file && slot_address laid r == number in
      let own : (fills_foldable laid s && test s) ≡ true =
      ap (λ (b : Bool). b && test s) folds ∙ here_case file number s.file (slot_address laid s) same begins in
      let some = any_picked test (λ r. r) (fills_foldable laid) (all_records files)
      (record_passes (λ r. fills_foldable laid r && test r) files s within own) in
      some_first test (λ r. r) IsFolded s
      (λ r folded passes.
      let there = there_case file number r.file (slot_address laid r) passes in
      one_slot r s folded.within within folded.folds folds (there.0 ∙ sym same) (there.1 ∙ sym begins))
      (slot_records laid) (folded_in (all_records files) (all_records_in files)) some

  pub none_found : (file number : ℕ) →
      list_any (λ r. eqb r.file file && eqb (slot_address (laid_by files span) r) number) (slot_records (laid_by files span)) ≡ false →
      slot_at (laid_by files span) (slot_records (laid_by files span)) file (Some number) ≡ None
  none_found file number none =
      none_first (λ (r : RecordId). r.file == file && slot_address (laid_by files span) r == number) (λ r. r)
      (slot_records (laid_by files span)) none

  -- ---- what a record names

  number_told : (r : RecordId) (target : Target) (number : Option ℕ) → record_target files r ≡ Some target → IsTargetOf files target →
      number ≡ address_in plan target → record_number (laid_by files span) r ≡ number
  number_told r target number goes there read =
      ap (number_in (laid_by files span)) goes ∙ number_is files span plan is target there
      ∙ sym (address_is files span plan is target there) ∙ sym read

  named_by : (text : List ℕ) (r : RecordId) (number : Option ℕ) (o : Option RecordId) → record_number (laid_by files span) r ≡ number →
      slot_at (laid_by files span) (slot_records (laid_by files span)) r.file number ≡ o →
      named_distance files span text (slot_records (laid_by files span)) r ≡ option_map (slot_distance files span text r.file) o
  named_by text r number o told found =
      ap (λ (n : Option ℕ). option_map (slot_distance files span text r.file)
      (slot_at (laid_by files span) (slot_records (laid_by files span)) r.file n)) told
      ∙ ap (option_map (slot_distance files span text r.file)) found

  -- no number, and so no slot
  pub no_number : (text : List ℕ) (r : RecordId) (target : Target) → record_target files r ≡ Some target → IsTargetOf files target →
      None ≡ address_in plan target → named_distance files span text (slot_records (laid_by files span)) r ≡ None
  no_number text r target goes there read = named_by text r None None (number_told r target None goes there read) refl

  -- a number where none begins
  pub no_slot : (text : List ℕ) (f : FoldedSlots) (r : RecordId) (target : Target) (number : ℕ) → AreFolds (laid_by files span) f →
      record_target files r ≡ Some target → IsTargetOf files target → Some number ≡ address_in plan target → IsNamed f r.file number None →
      named_distance files span text (slot_records (laid_by files span)) r ≡ None
  no_slot text f r target number are goes there read none =
      named_by text r (Some number) None (number_told r target (Some number) goes there read)
      (none_found r.file number (none_named (laid_by files span) f r.file number are none))

  -- and one where one does
  pub the_slot : (text : List ℕ) (f : FoldedSlots) (r : RecordId) (target : Target) (number : ℕ) (s : Slot) →
      AreFolds (laid_by files span) f → record_target files r ≡ Some target → IsTargetOf files target →
      Some number ≡ address_in plan target →
      IsNamed f r.file number (Some s) →
      named_distance files span text (slot_records (laid_by files span)) r ≡ Some (slot_distance files span text r.file s.id)
  the_slot text f r target number s are goes there read named =
      let slot = named_slot (laid_by files span) f r.file number s are named in
      named_by text r (Some number) (Some s.id) (number_told r target (Some number) goes there read)
      (slot_found s.id r.file number slot.within slot.folds slot.file_is slot.begins)

some_reached : (laid : LaidFiles) (base : ℕ) (o : Option Target) → reaches laid base o ≡ true → IsSome o
some_reached laid base None reach = cc
some_reached laid base (Some target) reach = refl

-- what is looked up is a record that goes somewhere
pub record IsFilled (files : List (List ℕ)) (s : RecordId) : Type 0 where
  pub within : IsRecord files s
  pub goes : IsSome (record_target files s)

pub named_filled : (files : List (List ℕ)) (span : ℕ) (f : FoldedSlots) (file number : ℕ) (s : Slot) → AreFolds (laid_by files span) f →
    IsNamed f file number (Some s) → IsFilled files s.id
named_filled files span f file number s are named =
    let laid = laid_by files span in
    let slot = named_slot laid f file number s are named in
    record {
      within = slot.within;
      goes = some_reached laid (base_of laid s.id.file) (record_target files s.id) (foldable_parts laid s.id slot.folds).reach;
    }
