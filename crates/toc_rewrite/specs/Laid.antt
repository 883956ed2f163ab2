-- Files whose data has addresses: a TOC base for each file, and an address for each section and each common.
use Rattle.std.specs.Prelude.{◌≡◌, ℕ, ◌+◌, ◌<◌, List, length, Option, None, Some, slice_index}
use Rattle.object_set.specs.Walks.{section_walk, index_of, all_items}
use Rattle.symbol_table.specs.declared.target.Piece.{Piece}
use Rattle.symbol_table.specs.declared.target.Piece.TheVariants.{Section, Common}
use Rattle.symbol_table.specs.declared.target.Target.{Target}
use Rattle.symbol_table.specs.declared.target.Target.TheVariants.{Data, Code, Number, TocBase, WeakNone}
use Rattle.symbol_table.specs.Candidates.{all_commons}
use Rattle.symbol_table.specs.Targets.{plus_addend}
use Rattle.toc_rewrite.specs.declared.laid.TheConstants.{ADDRESS_END}

-- the files; the TOC base of each; the address of each section of each file in order, section 0 among them, and then that of each common
-- in first-seen order of the names
pub record LaidFiles : Type 0 where
  pub files : List (List ℕ)
  pub bases : List ℕ
  pub pieces : List ℕ

abbrev pub laid_files : List (List ℕ) → List ℕ → List ℕ → LaidFiles
laid_files files bases pieces = record { files = files; bases = bases; pieces = pieces }

-- there is a base for each file and an address for each section and common, and data ends below the text's limit
pub record HasAddresses (laid : LaidFiles) : Type 0 where
  pub bases : length laid.bases ≡ length laid.files
  pub pieces : length laid.pieces ≡ length (all_items section_walk laid.files) + length (all_commons laid.files)
  pub low_bases : (k : ℕ) → slice_index laid.bases k < ADDRESS_END
  pub low_pieces : (k : ℕ) → slice_index laid.pieces k < ADDRESS_END

-- the TOC base of a file
abbrev pub base_of : LaidFiles → ℕ → ℕ
base_of laid file = slice_index laid.bases file

-- where section i of a file lies
abbrev pub section_address : LaidFiles → ℕ → ℕ → ℕ
section_address laid file i = slice_index laid.pieces (index_of section_walk laid.files file i)

-- where common c lies
abbrev pub common_address : LaidFiles → ℕ → ℕ
common_address laid c = slice_index laid.pieces (length (all_items section_walk laid.files) + c)

abbrev pub piece_address : LaidFiles → Piece → ℕ
piece_address laid (Section file i) = section_address laid file i
piece_address laid (Common c) = common_address laid c

-- the number that a target is: where it lies in data, or the number itself; a place in text is none
abbrev pub number_of : LaidFiles → Target → Option ℕ
number_of laid (Data piece addend) = Some (plus_addend (piece_address laid piece) addend)
number_of laid (Code section offset) = None
number_of laid (Number n) = Some n
number_of laid (TocBase file addend) = Some (plus_addend (base_of laid file) addend)
number_of laid (WeakNone addend) = Some (plus_addend 0 addend)
