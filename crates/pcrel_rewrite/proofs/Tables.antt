-- What the records that a section holds are about.
use Rattle.std.proofs.Common.{◌≡◌, ◌≢◌, ◌<◌, ℕ, List, None, length, refl, ap, sym, subst, ◌∙◌, arith}
use Rattle.elf64_records.specs.FileHeader.{e_shnum}
use Rattle.elf64_records.specs.Records.{record_count}
use Rattle.elf64_records.specs.Sections.{sh_info}
use Rattle.object_set.specs.Files.{file_at}
use Rattle.object_set.specs.Refusals.{set_refusal}
use Rattle.object_set.specs.Walks.{record_id}
use Rattle.symbol_table.specs.laws.Sections.{record_about}

-- it is a section of their file
pub about_within : (files : List (List ℕ)) (file table : ℕ) → set_refusal files ≡ None → file < length files →
    table < e_shnum (file_at files file) → 0 < record_count (file_at files file) table →
    sh_info (file_at files file) table < e_shnum (file_at files file)
about_within files file table whole file_in table_in some =
    (record_about files (record_id file (file_at files file) table 0) whole
    (record { file_in = file_in; table_in = table_in; within = some; section_is = refl })).within

-- what is read of a table that has records: the section that they are about, and its file
pub about_read : (files set : List (List ℕ)) (b : List ℕ) (file table count section : ℕ) → set ≡ files → set_refusal set ≡ None →
    b ≡ file_at set file → count ≡ record_count b table → count ≢ 0 → section ≡ sh_info b table → file < length files →
    table < e_shnum (file_at files file) → section < e_shnum (file_at files file)
about_read files set b file table count section same whole view many some info file_in table_in =
    let here = view ∙ ap (λ (s : List (List ℕ)). file_at s file) same in
    let records : record_count (file_at files file) table ≡ count = sym (many ∙ ap (λ (l : List ℕ). record_count l table) here) in
    let any : 0 < record_count (file_at files file) table = grind (arith, records, some) in
    subst (λ (n : ℕ). n < e_shnum (file_at files file)) (sym (info ∙ ap (λ (l : List ℕ). sh_info l table) here))
    (about_within files file table (ap set_refusal (sym same) ∙ whole) file_in table_in any)
