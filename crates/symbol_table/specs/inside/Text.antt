-- Text sections while they are numbered.
use Rattle.std.specs.Prelude.{◌≡◌, ◌≤◌, ℕ, List, length}
use Rattle.elf64_records.specs.FileHeader.{e_shnum}
use Rattle.object_set.specs.Files.{file_at}
use Rattle.symbol_table.specs.Text.{text_sections, text_index}
use Rattle.object_set.specs.declared.places.SectionId.{SectionId}
use Rattle.object_set.specs.inside.Rows.{IsRow, AreRows}

-- how many text sections stand before each of the first n sections of a file
abbrev pub AreTextIndexes : List (List ℕ) → ℕ → ℕ → List ℕ → Type 0
AreTextIndexes files file n indexes = IsRow (λ i k. k ≡ text_index files file i) n indexes

-- before all sections of a file
abbrev pub AreFileIndexes : List (List ℕ) → ℕ → List ℕ → Type 0
AreFileIndexes files file indexes = AreTextIndexes files file (e_shnum (file_at files file)) indexes

-- before all sections of the first n files
abbrev pub AreAllTextIndexes : List (List ℕ) → ℕ → List (List ℕ) → Type 0
AreAllTextIndexes files n indexes =
    AreRows (λ file i k. k ≡ text_index files file i) (λ file. e_shnum (file_at files file)) n indexes

-- text sections of files, and how many stand before each section
pub record AreNumberedTexts (files : List (List ℕ)) (texts : List SectionId) (indexes : List (List ℕ)) : Type 0 where
  pub texts_are : texts ≡ text_sections files
  pub few : length texts ≤ 0xFFFFFFFF
  pub indexes_are : AreAllTextIndexes files (length files) indexes
