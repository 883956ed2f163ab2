-- The text sections of a set of files, numbered in order of file and section.
use Rattle.std.specs.Prelude.{ℕ, List, [], ◌∷◌, Option, Some, None, if◌then◌else◌}
use Rattle.elf64_records.specs.FileHeader.{e_shnum}
use Rattle.object_set.specs.declared.places.SectionId.{SectionId}
use Rattle.object_set.specs.Files.{file_at}
use Rattle.object_set.specs.Sections.{is_text}
use Rattle.object_set.specs.Walks.{Walk, all_items, index_of}

-- section i of a file, where it is text
abbrev pub text_at : ℕ → List ℕ → ℕ → List SectionId
text_at file b i = if is_text b i then record { file = file; section = i } ∷ [] else []

-- those of all files
abbrev pub text_walk : Walk SectionId
text_walk = record { count = e_shnum; items = text_at }

abbrev pub text_sections : List (List ℕ) → List SectionId
text_sections files = all_items text_walk files

-- how many text sections stand before a section of a file: its number, where it is text
abbrev pub text_index : List (List ℕ) → ℕ → ℕ → ℕ
text_index files file section = index_of text_walk files file section

abbrev pub text_number : List (List ℕ) → ℕ → ℕ → Option ℕ
text_number files file section =
    if is_text (file_at files file) section then Some (text_index files file section) else None
