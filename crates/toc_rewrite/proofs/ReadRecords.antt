-- The records of a section as they are read.
use Rattle.std.proofs.Common.{◌≡◌, ℕ, List, ap, ◌∙◌}
use Rattle.elf64_records.specs.Sections.{sh_info}
use Rattle.object_set.specs.Files.{file_at}
use Rattle.object_set.specs.Walks.{record_id}

-- what a section's header names is the section that its records are about
pub record_read : (files set : List (List ℕ)) (view : List ℕ) (file table entry info : ℕ) → set ≡ files → view ≡ file_at set file →
    info ≡ sh_info view table →
    record { file = file; table = table; entry = entry; section = info } ≡ record_id file (file_at files file) table entry
record_read files set view file table entry info same there is =
    ap (λ (s : ℕ). record { file = file; table = table; entry = entry; section = s })
    (is ∙ ap (λ (l : List ℕ). sh_info l table) (there ∙ ap (λ (s : List (List ℕ)). file_at s file) same))
