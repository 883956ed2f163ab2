-- Where a cursor stands in a set.
use Rattle.std.specs.Prelude.{ℕ, ◌-◌, ◌≤◌, ◌<◌, ◌^◌, List, [], ◌∷◌, ◌++◌, length}
use Rattle.elf64_records.specs.FileHeader.{e_shnum}
use Rattle.elf64_records.specs.Symbols.{symbol_count}
use Rattle.object_set.specs.declared.places.SectionId.{SectionId}
use Rattle.object_set.specs.declared.places.SymbolId.{SymbolId}
use Rattle.object_set.specs.declared.walk.Numbers.{Numbers}
use Rattle.object_set.specs.declared.walk.Numbers.TheVariants.{Sections, Symbols}
use Rattle.object_set.specs.Walks.{Walk}
use Rattle.object_set.specs.inside.Left.{numbers_left, files_left}

-- a file and a number, as a section and as a symbol
abbrev pub section_id : ℕ × ℕ → SectionId
section_id pair = record { file = pair.0; section = pair.1 }

abbrev pub symbol_id : ℕ × ℕ → SymbolId
symbol_id pair = record { file = pair.0; symbol = pair.1 }

-- how many numbers a file has
abbrev pub count_of : Numbers → List ℕ → ℕ
count_of Sections b = e_shnum b
count_of Symbols b = symbol_count b

-- the walk past each file and number
abbrev pub pair_walk : Numbers → Walk (ℕ × ℕ)
pair_walk numbers = record { count = count_of numbers; items = λ file b n. (file, n) ∷ [] }

-- the files and numbers that are left: those of a file from a number up to an end, and those of the files from the next one on
abbrev pub pairs_left : Numbers → List (List ℕ) → ℕ → ℕ → ℕ → ℕ → List (ℕ × ℕ)
pairs_left numbers set file number end next =
    numbers_left (pair_walk numbers) set file number (end - number)
    ++ files_left (pair_walk numbers) set next (length set - next)

-- neither is past its end, and the file's end is a number of a section or symbol
pub record IsWithin (set : List (List ℕ)) (number end next : ℕ) : Type 0 where
  pub number_in : number ≤ end
  pub end_fits : end < 2 ^ 32
  pub next_in : next ≤ length set
