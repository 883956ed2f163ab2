-- Which records are left.
use Rattle.std.specs.Prelude.{ℕ, ◌≡◌, ◌+◌, ◌-◌, ◌≤◌, ◌<◌, ◌^◌, List, [], ◌∷◌, ◌++◌, length}
use Rattle.std.specs.List.{All, flat_map}
use Rattle.elf64_records.specs.FileHeader.{e_shnum}
use Rattle.elf64_records.specs.Sections.{sh_info}
use Rattle.elf64_records.specs.Records.{record_count}
use Rattle.object_set.specs.declared.places.SectionId.{SectionId}
use Rattle.object_set.specs.declared.places.RecordId.{RecordId}
use Rattle.object_set.specs.Files.{file_at}
use Rattle.object_set.specs.Walks.{IsSection, records_in}
use Rattle.object_set.specs.inside.Left.{records_left}

-- the records of a section
abbrev pub records_of : List (List ℕ) → SectionId → List RecordId
records_of set s = let b = file_at set s.file in records_in s.file b s.section (record_count b s.section)

-- those of a section from the next one up to an end, and those of the sections that are left
abbrev pub all_records_left : List (List ℕ) → RecordId → ℕ → List SectionId → List RecordId
all_records_left set next end sections =
    records_left next.file (file_at set next.file) next.table next.entry (end - next.entry)
    ++ flat_map (records_of set) sections

-- the next record isn't past the end, and is about the section that its table names
pub record AreWithin (set : List (List ℕ)) (next : RecordId) (end : ℕ) (sections : List SectionId) : Type 0 where
  pub entry_in : next.entry ≤ end
  pub end_fits : end < 2 ^ 32
  pub section : next.entry < end → next.section ≡ sh_info (file_at set next.file) next.table
  pub each : All (IsSection set) sections
