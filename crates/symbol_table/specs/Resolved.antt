-- What contracts see of files whose names are resolved.
use Rattle.std.specs.Prelude.{ℕ, List}
use Rattle.object_set.specs.declared.places.SectionId.{SectionId}
use Rattle.object_set.specs.declared.places.SymbolId.{SymbolId}
use Rattle.symbol_table.specs.declared.candidates.CommonSize.{CommonSize}
use Rattle.symbol_table.specs.declared.target.CodePlace.{CodePlace}

-- the files, and where the program is entered
pub record ResolvedFiles : Type 0 where
  pub files : List (List ℕ)
  pub entry : CodePlace

-- a symbol as its file and its number there
abbrev pub pair_of : SymbolId → ℕ × ℕ
pair_of symbol = (symbol.file, symbol.symbol)

-- the section of a file and a number there
abbrev pub section_id : ℕ × ℕ → SectionId
section_id p = record { file = p.0; section = p.1 }

-- a common as its size and its alignment
abbrev pub size_pair : CommonSize → ℕ × ℕ
size_pair common = (common.size, common.align)
