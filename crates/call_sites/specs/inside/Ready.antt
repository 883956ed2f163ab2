-- What is known of the files of a link while their calls are gone through.
use Rattle.std.specs.Prelude.{ℕ, ◌≡◌, List, None, length, map}
use Rattle.std.specs.List.{range_with_len}
use Rattle.elf64_records.specs.Sections.{section_bytes}
use Rattle.object_set.specs.declared.places.SectionId.{SectionId}
use Rattle.object_set.specs.Files.{file_at}
use Rattle.object_set.specs.Refusals.{set_refusal}
use Rattle.symbol_table.specs.Records.{records_refusal}
use Rattle.symbol_table.specs.Text.{text_sections}
use Rattle.symbol_table.specs.inside.Fields.{FileOf}

-- files of these TOC groups
pub record GroupedFiles : Type 0 where
  pub files : List (List ℕ)
  pub groups : List ℕ

-- the bytes of a text section
abbrev pub bytes_of : List (List ℕ) → SectionId → List ℕ
bytes_of files s = section_bytes (file_at files s.file) s.section

abbrev pub text_bytes : List (List ℕ) → List (List ℕ)
text_bytes files = map (bytes_of files) (text_sections files)

-- a file of a set
abbrev pub file_of : List (List ℕ) → ℕ → FileOf
file_of files file = record { files = files; file = file }

-- all of them
abbrev pub files_of : List (List ℕ) → List FileOf
files_of files = map (file_of files) (range_with_len 0 (length files))

-- none of the files and records is refused, each file has a group, and the bytes of text sections and the prologues are those of the files
pub record IsReady (files : List (List ℕ)) (groups : List ℕ) (texts : List (List ℕ)) (prologues : List FileOf) : Type 0 where
  pub whole : set_refusal files ≡ None
  pub sound : records_refusal files ≡ None
  pub grouped : length groups ≡ length files
  pub texts_are : texts ≡ text_bytes files
  pub prologues_are : prologues ≡ files_of files
