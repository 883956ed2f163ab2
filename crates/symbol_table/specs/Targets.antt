-- Where records and the entry go (ELFv2 ABI, 3.4 "Symbol Table"; ELF64, "Relocation": S + A).
use Rattle.std.specs.Prelude.{ℕ, ℤ, ◌+◌, ◌%◌, ◌^◌, Bool, true, false, List, ◌||◌, ◌&&◌, ◌==◌, ◌<◌, Option, Some, None, length}
use Rattle.std.specs.Prelude.{is_some, unwrap_or, nat_lt, if◌then◌else◌}
use Rattle.elf64_records.specs.Sections.{sh_size}
use Rattle.elf64_records.specs.Symbols.{st_value, symbol_count}
use Rattle.object_set.specs.Files.{file_at}
use Rattle.object_set.specs.Sections.{is_text, sort_of}
use Rattle.object_set.specs.declared.sort.Sort.{Sort}
use Rattle.object_set.specs.declared.sort.Sort.TheVariants.{Text, Zeroed, Toc, Writable, ReadOnly, Dropped}
use Rattle.object_set.specs.Symbols.{name_of, is_local, is_weak, section_index, is_absolute, is_toc_base, lies_in_kept}
use Rattle.object_set.specs.declared.refusal.Refusal.{Refusal}
use Rattle.object_set.specs.declared.refusal.Refusal.TheVariants.{NoEntry, EntryNotCode}
use Rattle.symbol_table.specs.declared.candidates.Resolution.{Resolution}
use Rattle.symbol_table.specs.declared.candidates.Resolution.TheVariants as resolution
use Rattle.symbol_table.specs.declared.target.CodePlace.{CodePlace}
use Rattle.symbol_table.specs.declared.target.Piece.TheVariants as piece
use Rattle.symbol_table.specs.declared.target.Target.{Target}
use Rattle.symbol_table.specs.declared.target.Target.TheVariants as target
use Rattle.object_set.specs.declared.places.SymbolId.{SymbolId}
use Rattle.symbol_table.specs.Candidates.{stands_for, definition_in, common_number}
use Rattle.symbol_table.specs.Text.{text_index}
use Rattle.std.specs.Int.{w64, cast_signed, cast_unsigned}

-- a sum modulo 2^64
abbrev pub plus_addend : ℕ → ℤ → ℕ
plus_addend value addend = (value + cast_unsigned w64 addend) % 2 ^ 64

-- where something at an offset of section i of a file goes, by the section's sort: to text, to data, or nowhere where the section
-- isn't kept
abbrev pub section_target : List (List ℕ) → ℕ → ℕ → ℕ → Sort → Option Target
section_target files file at i Text = Some (target.Code (text_index files file i) at)
section_target files file at i Zeroed = Some (target.Data (piece.Section file i) (cast_signed w64 at))
section_target files file at i Toc = Some (target.Data (piece.Section file i) (cast_signed w64 at))
section_target files file at i Writable = Some (target.Data (piece.Section file i) (cast_signed w64 at))
section_target files file at i ReadOnly = Some (target.Data (piece.Section file i) (cast_signed w64 at))
section_target files file at i Dropped = None

abbrev pub index_target : List (List ℕ) → ℕ → ℕ → Option ℕ → Option Target
index_target files file at None = None
index_target files file at (Some i) = section_target files file at i (sort_of (file_at files file) i)

-- where symbol j of a file lies, moved by an addend: at a number, in text or in data
abbrev pub own_target : List (List ℕ) → ℕ → ℕ → ℤ → Option Target
own_target files file j addend =
    let b = file_at files file in
    let at = plus_addend (st_value b j) addend in
    if is_absolute b j then Some (target.Number at) else index_target files file at (section_index b j)

-- where a name goes, moved by an addend; a weak symbol may stand for nothing
abbrev pub named_target : List (List ℕ) → List ℕ → Bool → Resolution → ℤ → Option Target
named_target files name weak (resolution.Definition s) addend = own_target files s.file s.symbol addend
named_target files name weak (resolution.Common common) addend = Some (target.Data (piece.Common (common_number files name)) addend)
named_target files name true resolution.Undefined addend = Some (target.WeakNone addend)
named_target files name false resolution.Undefined addend = None

-- where the name of symbol j of a file goes, moved by an addend
abbrev pub external_target : List (List ℕ) → ℕ → ℕ → ℤ → Option Target
external_target files file j addend =
    let b = file_at files file in
    named_target files (name_of b j) (is_weak b j) (stands_for files (name_of b j)) addend

-- where symbol j of a file goes, moved by an addend; None where it stands for nothing and isn't weak
abbrev pub target_of : List (List ℕ) → ℕ → ℕ → ℤ → Option Target
target_of files file j addend =
    let b = file_at files file in
    if j == 0 then Some (target.Number (plus_addend 0 addend))
    else (if is_toc_base b j then Some (target.TocBase file addend)
    else (if is_local b j then own_target files file j addend
    else external_target files file j addend))

-- symbol j of a file is a place or a number by itself
abbrev pub is_defined : List ℕ → ℕ → Bool
is_defined b j = is_absolute b j || lies_in_kept b j

-- the definition for which symbol j of a file stands
abbrev pub definition_of : List (List ℕ) → ℕ → ℕ → Option SymbolId
definition_of files file j =
    let b = file_at files file in
    if j == 0 || is_toc_base b j then None
    else (if is_local b j then (if is_defined b j then Some (record { file = file; symbol = j }) else None)
    else definition_in (stands_for files (name_of b j)))

-- an instruction stands at an offset of section i of a file: in text, at a multiple of 4 below the section's size
abbrev pub is_instruction : List ℕ → ℕ → ℕ → Bool
is_instruction b i offset = is_text b i && offset % 4 == 0 && nat_lt offset (sh_size b i)

-- its place, where it stands there
abbrev pub instruction_in : List (List ℕ) → ℕ → ℕ → Option ℕ → Option CodePlace
instruction_in files file offset None = None
instruction_in files file offset (Some i) =
    if is_instruction (file_at files file) i offset then Some (record { section = text_index files file i; offset = offset }) else None

-- the place of symbol j of a file, where it is an instruction
abbrev pub instruction_at : List (List ℕ) → ℕ → ℕ → Option CodePlace
instruction_at files file j = instruction_in files file (st_value (file_at files file) j) (section_index (file_at files file) j)

-- a symbol other than symbol 0 of one of the files
pub record IsPlaced (files : List (List ℕ)) (file number : ℕ) : Type 0 where
  pub file_in : file < length files
  pub some : 0 < number
  pub within : number < symbol_count (file_at files file)

-- why an entry's name is refused
abbrev pub entry_fault : List (List ℕ) → List ℕ → Resolution → Option Refusal
entry_fault files entry (resolution.Definition s) =
    if is_some (instruction_at files s.file s.symbol) then None else Some (EntryNotCode entry)
entry_fault files entry (resolution.Common common) = Some (EntryNotCode entry)
entry_fault files entry resolution.Undefined = Some (NoEntry entry)

abbrev pub entry_refusal : List (List ℕ) → List ℕ → Option Refusal
entry_refusal files entry = entry_fault files entry (stands_for files entry)

-- the place of the entry's definition in text
abbrev pub entry_at : List (List ℕ) → Resolution → CodePlace
entry_at files (resolution.Definition s) = unwrap_or (instruction_at files s.file s.symbol) (record { section = 0; offset = 0 })
entry_at files (resolution.Common common) = record { section = 0; offset = 0 }
entry_at files resolution.Undefined = record { section = 0; offset = 0 }

abbrev pub entry_place : List (List ℕ) → List ℕ → CodePlace
entry_place files entry = entry_at files (stands_for files entry)
