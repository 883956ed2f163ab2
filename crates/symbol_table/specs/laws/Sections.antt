-- The sections that records are about, and their bytes.
use Rattle.std.proofs.Common.{◌≡◌, ◌≢◌, ◌<◌, ℕ, true, List, length, None, Some, sym, ap, ◌∙◌, subst, refl, arith}
use Rattle.std.specs.Option.{option_map}
use Rattle.elf64_records.specs.First.{◌orelse◌}
use Rattle.elf64_records.specs.laws.First.{both_none}
use Rattle.elf64_records.specs.laws.Whole.{read_has_records, target_in_range}
use Rattle.elf64_records.specs.FileHeader.{e_shnum}
use Rattle.elf64_records.specs.Faults.{object_fault}
use Rattle.elf64_records.specs.Records.{has_records}
use Rattle.elf64_records.specs.Sections.{sh_info, sh_size, is_rela, is_kept, section_bytes}
use Rattle.object_set.specs.declared.places.RecordId.{RecordId}
use Rattle.object_set.specs.declared.sort.Sort.{Sort}
use Rattle.object_set.specs.declared.sort.Sort.TheVariants.{Text, Zeroed}
use Rattle.object_set.specs.Files.{file_at}
use Rattle.object_set.specs.Refusals.{set_refusal, file_refusal, length_refusal, fault_refusal, sections_refusal, symbols_refusal, refusal_of}
use Rattle.object_set.specs.Sections.{sort_of, is_text, is_text_sort, is_kept_sort}
use Rattle.object_set.specs.Walks.{IsRecord}
use Rattle.object_set.specs.laws.Fit.{file_fit, section_fit, is_kept_sort-sort_of}

-- a file of a set has no fault
no_fault : (file : ℕ) (b : List ℕ) → fault_refusal file b ≡ None → object_fault b ≡ None
unfolding fault_refusal
no_fault file b passes =
    elim (object_fault b) as (λ o. option_map (refusal_of file) o ≡ None → o ≡ None) [ None ↦ λ _. refl | Some fault ↦ λ some. cc ] passes

file_whole : (file : ℕ) (b : List ℕ) → file_refusal file b ≡ None → object_fault b ≡ None
unfolding file_refusal
file_whole file b passes =
    let rest = both_none (length_refusal file b)
    (fault_refusal file b orelse (sections_refusal file b orelse symbols_refusal file b)) passes in
    no_fault file b (both_none (fault_refusal file b) (sections_refusal file b orelse symbols_refusal file b) rest.1).0

-- the section that a record is about is one of its file, and is kept
pub record IsAbout (b : List ℕ) (section : ℕ) : Type 0 where
  pub within : section < e_shnum b
  pub kept : is_kept_sort (sort_of b section) ≡ true

about_case : (b : List ℕ) (table k : ℕ) → object_fault b ≡ None → table < e_shnum b → has_records b table ≡ true →
    IsAbout b (sh_info b table)
about_case b table k whole within has =
    let rela : is_rela b table ≡ true = grind (arith, has) in
    let kept : is_kept b (sh_info b table) ≡ true = grind (arith, has) in
    record { within = target_in_range b table whole within rela; kept = is_kept_sort-sort_of b (sh_info b table) ∙ kept }

pub record_about : (set : List (List ℕ)) (r : RecordId) → set_refusal set ≡ None → IsRecord set r → IsAbout (file_at set r.file) r.section
record_about set r whole is =
    let b = file_at set r.file in
    let passes = file_whole r.file b (file_fit set r.file whole is.file_in) in
    subst (IsAbout b) (sym is.section_is) (about_case b r.table r.entry passes is.table_in (read_has_records b r.table r.entry is.within))

-- a section that has bytes has as many as its header says
pub bytes_whole : (set : List (List ℕ)) (file section : ℕ) → set_refusal set ≡ None → file < length set →
    IsAbout (file_at set file) section → sort_of (file_at set file) section ≢ Zeroed →
    length (section_bytes (file_at set file) section) ≡ sh_size (file_at set file) section
bytes_whole set file section whole file_in about stored =
    (section_fit file (file_at set file) section (file_fit set file whole file_in) about.within about.kept).stored stored

-- text isn't zeroed, and is kept
pub text_sort : (sort : Sort) → is_text_sort sort ≡ true → sort ≡ Text
text_sort = elim [ Text ↦ λ _. refl | _ ↦ λ text. cc ]

pub text_about : (b : List ℕ) (section : ℕ) → section < e_shnum b → is_text b section ≡ true → IsAbout b section
text_about b section within text =
    let this : sort_of b section ≡ Text = text_sort (sort_of b section) text in
    record { within = within; kept = ap is_kept_sort this }

pub text_stored : (b : List ℕ) (section : ℕ) → is_text b section ≡ true → sort_of b section ≢ Zeroed
text_stored b section text = λ zeroed.
    let this : sort_of b section ≡ Text = text_sort (sort_of b section) text in
    cc
