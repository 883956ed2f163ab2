-- What contracts see of data that is laid out.
use Rattle.std.specs.Prelude.{◌≡◌, ℕ, ◌+◌, ◌*◌, ◌<◌, List, [], length, map, Option, Some, None, slice_index}
use Rattle.std.specs.List.{slice_index_or, range_with_len}
use Rattle.std.specs.Option.{option_map}
use Rattle.object_set.specs.Walks.{section_walk, index_of, all_items}
use Rattle.object_set.specs.declared.places.SymbolId.{SymbolId}
use Rattle.symbol_table.specs.declared.target.Piece.{Piece}
use Rattle.symbol_table.specs.declared.target.Piece.TheVariants.{Section, Common}
use Rattle.symbol_table.specs.declared.target.Target.{Target}
use Rattle.symbol_table.specs.declared.target.Target.TheVariants.{Data, Code, Number, TocBase, WeakNone}
use Rattle.symbol_table.specs.Targets.{plus_addend}
use Rattle.toc_groups.specs.declared.slots.TheConstants.{SLOT_SIZE}
use Rattle.elf64_records.specs.Symbols.{symbol_count}
use Rattle.object_set.specs.Files.{file_at}
use Rattle.toc_groups.specs.Parts.{IsPieceOf, IsTargetOf}
use Rattle.toc_groups.specs.Groups.{group_number, group_count}
use Rattle.toc_groups.specs.declared.pieces.DataEnds.{DataEnds}
use Rattle.toc_groups.specs.Data.{read_only_end, writable_start, writable_end, commons_end, group_start, group_slots, base_of, piece_addresses, piece_address, target_address, slot_row, slot_address, text_start, data_refusal}

-- the TOC span for which data is laid out; the TOC group and the TOC base of each file; the addresses of all sections and commons, and how
-- many of them come before the sections of each file and before the commons; where each group starts, the symbols for which its slots were
-- made, and the numbers of the slots of each file's symbols; where the runs of data begin and end, and the start of text
pub record LaidData : Type 0 where
  pub span : ℕ
  pub groups : List ℕ
  pub bases : List ℕ
  pub pieces : List ℕ
  pub firsts : List ℕ
  pub commons : ℕ
  pub starts : List ℕ
  pub named : List (List SymbolId)
  pub slots : List (List (Option ℕ))
  pub ends : DataEnds
  pub text_start : ℕ

-- where the runs of data begin and end
abbrev pub data_ends : List (List ℕ) → ℕ → DataEnds
data_ends files span = record {
  read_only = read_only_end files;
  writable_start = writable_start files;
  writable = writable_end files span;
  commons = commons_end files span;
}

-- these are the data of files, laid out with a TOC span, and they aren't too big
pub record IsPlan (files : List (List ℕ)) (span : ℕ) (plan : LaidData) : Type 0 where
  pub span_is : plan.span ≡ span
  pub groups : plan.groups ≡ map (group_number files span) (range_with_len 0 (length files))
  pub bases : plan.bases ≡ map (base_of files span) (range_with_len 0 (length files))
  pub pieces : plan.pieces ≡ piece_addresses files span
  pub firsts : plan.firsts ≡ map (λ file. index_of section_walk files file 0) (range_with_len 0 (length files))
  pub commons : plan.commons ≡ length (all_items section_walk files)
  pub starts : plan.starts ≡ map (group_start files span) (range_with_len 0 (group_count files span))
  pub named : plan.named ≡ map (group_slots files span) (range_with_len 0 (group_count files span))
  pub slots : plan.slots ≡ map (slot_row files span) (range_with_len 0 (length files))
  pub ends : plan.ends ≡ data_ends files span
  pub text_start : plan.text_start ≡ text_start files span
  pub fits : data_refusal files span ≡ None

-- which of the addresses is a piece's
abbrev pub piece_index : LaidData → Piece → ℕ
piece_index plan (Section file i) = slice_index plan.firsts file + i
piece_index plan (Common c) = plan.commons + c

-- a piece is one of those that are laid out
abbrev pub IsLaidPiece : LaidData → Piece → Type 0
IsLaidPiece plan (Section file i) = (file < length plan.firsts) × (slice_index plan.firsts file + i < length plan.pieces)
IsLaidPiece plan (Common c) = plan.commons + c < length plan.pieces

-- so are the piece and the file of a target
abbrev pub IsLaidTarget : LaidData → Target → Type 0
IsLaidTarget plan (Data piece addend) = IsLaidPiece plan piece
IsLaidTarget plan (Code section offset) = Unit {0}
IsLaidTarget plan (Number n) = Unit {0}
IsLaidTarget plan (TocBase file addend) = file < length plan.bases
IsLaidTarget plan (WeakNone addend) = Unit {0}

-- where a target lies in data, or the number that it is
abbrev pub address_in : LaidData → Target → Option ℕ
address_in plan (Data piece addend) = Some (plus_addend (slice_index plan.pieces (piece_index plan piece)) addend)
address_in plan (Code section offset) = None
address_in plan (Number n) = Some n
address_in plan (TocBase file addend) = Some (plus_addend (slice_index plan.bases file) addend)
address_in plan (WeakNone addend) = Some (plus_addend 0 addend)

-- the numbers of the slots of a file's symbols
abbrev pub row_in : LaidData → ℕ → List (Option ℕ)
row_in plan file = slice_index_or plan.slots file []

-- a symbol of one of the files
pub record IsLaidSymbol (plan : LaidData) (file j : ℕ) : Type 0 where
  pub file_in : file < length plan.groups
  pub within : j < length (row_in plan file)

-- where the slot of symbol j of a file lies, where a load of that file names the symbol
abbrev pub slot_in : LaidData → ℕ → ℕ → Option ℕ
slot_in plan file j =
    option_map (λ k. slice_index plan.starts (slice_index plan.groups file) + SLOT_SIZE * k) (slice_index_or (row_in plan file) j None)

-- what a plan tells of the pieces, targets and symbols of files, whose numbers it knows
pub record TellsOf (files : List (List ℕ)) (span : ℕ) (plan : LaidData) : Type 0 where
  pub knows_piece : (piece : Piece) → IsPieceOf files piece → IsLaidPiece plan piece
  pub knows_target : (target : Target) → IsTargetOf files target → IsLaidTarget plan target
  pub knows_symbol : (file j : ℕ) → file < length files → j < symbol_count (file_at files file) → IsLaidSymbol plan file j
  pub pieces : (piece : Piece) → IsPieceOf files piece → slice_index plan.pieces (piece_index plan piece) ≡ piece_address files span piece
  pub targets : (target : Target) → IsTargetOf files target → address_in plan target ≡ target_address files span target
  pub slots : (file j : ℕ) → file < length files → j < symbol_count (file_at files file) →
      slot_in plan file j ≡ slot_address files span file j
