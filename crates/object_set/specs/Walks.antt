-- Ordered walks over a set: through the files in order, in each file through its numbers in order, at each number past a list of
-- items, mostly none or one.
use Rattle.std.specs.Prelude.{ℕ, zero, suc, ◌+◌, ◌<◌, ◌≡◌, true, List, [], ◌∷◌, ◌++◌, length}
use Rattle.elf64_records.specs.FileHeader.{e_shnum}
use Rattle.elf64_records.specs.Sections.{sh_info}
use Rattle.elf64_records.specs.Symbols.{symbol_count}
use Rattle.elf64_records.specs.Records.{record_count}
use Rattle.object_set.specs.declared.places.SectionId.{SectionId}
use Rattle.object_set.specs.declared.places.SymbolId.{SymbolId}
use Rattle.object_set.specs.declared.places.RecordId.{RecordId}
use Rattle.object_set.specs.Files.{file_at}

-- what a walk passes: how many numbers a file has, and the items at each, by the file's number, its bytes and the number
pub record Walk (X : Type 0) : Type 0 where
  pub count : List ℕ → ℕ
  pub items : ℕ → List ℕ → ℕ → List X

module _ {X : Type 0} (w : Walk X) where
  -- the items at the first n numbers of a file
  abbrev pub items_in : ℕ → List ℕ → ℕ → List X
  items_in file b zero = []
  items_in file b (suc n) = items_in file b n ++ w.items file b n

  -- those of the first n files
  abbrev pub items_before : List (List ℕ) → ℕ → List X
  items_before set zero = []
  items_before set (suc n) = items_before set n ++ items_in n (file_at set n) (w.count (file_at set n))

  -- those of all files
  abbrev pub all_items : List (List ℕ) → List X
  all_items set = items_before set (length set)

  -- how many items come before number n of a file: the index of the first one there
  abbrev pub index_of : List (List ℕ) → ℕ → ℕ → ℕ
  index_of set file n = length (items_before set file) + length (items_in file (file_at set file) n)

-- a section, and a symbol, of one of the files
pub record IsSection (set : List (List ℕ)) (s : SectionId) : Type 0 where
  pub file_in : s.file < length set
  pub within : s.section < e_shnum (file_at set s.file)

pub record IsSymbol (set : List (List ℕ)) (s : SymbolId) : Type 0 where
  pub file_in : s.file < length set
  pub within : s.symbol < symbol_count (file_at set s.file)

-- all sections, section 0 of each file among them
abbrev pub section_walk : Walk SectionId
section_walk = record { count = e_shnum; items = λ file b i. record { file = file; section = i } ∷ [] }

-- all symbols, symbol 0 of each file among them
abbrev pub symbol_walk : Walk SymbolId
symbol_walk = record { count = symbol_count; items = λ file b j. record { file = file; symbol = j } ∷ [] }

-- record k of section i of a file, with the section that it is about
abbrev pub record_id : ℕ → List ℕ → ℕ → ℕ → RecordId
record_id file b i k = record { file = file; table = i; entry = k; section = sh_info b i }

-- the first n records of section i of a file
abbrev pub records_in : ℕ → List ℕ → ℕ → ℕ → List RecordId
records_in file b i zero = []
records_in file b i (suc n) = records_in file b i n ++ record_id file b i n ∷ []

-- the relocation records of kept sections, in record order: by file, by the section that holds them, by position
abbrev pub record_walk : Walk RecordId
record_walk = record { count = e_shnum; items = λ file b i. records_in file b i (record_count b i) }

-- a relocation record of a kept section of one of the files
pub record IsRecord (set : List (List ℕ)) (r : RecordId) : Type 0 where
  pub file_in : r.file < length set
  pub table_in : r.table < e_shnum (file_at set r.file)
  pub within : r.entry < record_count (file_at set r.file) r.table
  pub section_is : r.section ≡ sh_info (file_at set r.file) r.table
