-- Why object files are refused, in the order in which it is said.
use Rattle.std.specs.Prelude.{ℕ, ◌≡◌, ◌+◌, ◌-◌, ◌⊎◌, List, [], ◌∷◌, length, nat_lt, Option, None, Some, Result, Ok, Err}
use Rattle.std.specs.Option.{option_map}
use Rattle.elf64_records.specs.declared.headers.TheConstants.{FILE_LIMIT}
use Rattle.elf64_records.specs.declared.fault.ElfFault.{ElfFault}
use Rattle.elf64_records.specs.declared.fault.ElfFault.TheVariants as fault
use Rattle.elf64_records.specs.First.{◌orelse◌, when, first_from}
use Rattle.elf64_records.specs.FileHeader.{e_shnum}
use Rattle.elf64_records.specs.Symbols.{symbol_count}
use Rattle.elf64_records.specs.Faults.{object_fault}
use Rattle.object_set.specs.declared.refusal.Refusal.{Refusal}
use Rattle.object_set.specs.declared.refusal.Refusal.TheVariants.{FileTooLong, NotElf, NotPpc64Le, SharedObject, NotObject, BadAbi, BadTable, Memory}
use Rattle.object_set.specs.Sections.{section_refusal}
use Rattle.object_set.specs.Symbols.{symbol_refusal, value_refusal}

-- the refusal of a file that has a fault
abbrev pub refusal_of : ℕ → ElfFault → Refusal
refusal_of file fault.NotElf = NotElf file
refusal_of file fault.NotPpc64Le = NotPpc64Le file
refusal_of file fault.SharedObject = SharedObject file
refusal_of file fault.NotObject = NotObject file
refusal_of file fault.BadAbi = BadAbi file
refusal_of file (fault.BadTable place) = BadTable file place

-- the file has too many bytes
abbrev pub length_refusal : ℕ → List ℕ → Option Refusal
length_refusal file b = when (nat_lt FILE_LIMIT (length b)) (FileTooLong file)

-- the file can't be read as an object file
unfoldable pub fault_refusal : ℕ → List ℕ → Option Refusal
fault_refusal file b = option_map (refusal_of file) (object_fault b)

-- the first of the sections' refusals, from section 1 on
abbrev pub sections_refusal : ℕ → List ℕ → Option Refusal
sections_refusal file b = first_from (section_refusal file b) 1 (e_shnum b - 1)

-- the first of the symbols' refusals, from symbol 1 on: of each by itself, and then of each in its section
abbrev pub symbols_refusal : ℕ → List ℕ → Option Refusal
symbols_refusal file b =
    first_from (symbol_refusal file b) 1 (symbol_count b - 1)
    orelse first_from (value_refusal file b) 1 (symbol_count b - 1)

-- why a file, of this number and these bytes, is refused
unfoldable pub file_refusal : ℕ → List ℕ → Option Refusal
file_refusal file b =
    length_refusal file b
    orelse fault_refusal file b
    orelse sections_refusal file b
    orelse symbols_refusal file b

-- the first of the files' refusals, where the files are numbered from here on
abbrev pub files_refusal : ℕ → List (List ℕ) → Option Refusal
files_refusal file [] = None
files_refusal file (b ∷ rest) = file_refusal file b orelse files_refusal (file + 1) rest

-- why a set of files is refused
abbrev pub set_refusal : List (List ℕ) → Option Refusal
set_refusal set = files_refusal 0 set

-- the answer is exactly this refusal, but for want of memory
abbrev pub Answers : {A : Type 0} → Result A Refusal → Option Refusal → Type 0
Answers (Ok a) refusal = refusal ≡ None
Answers (Err r) refusal = (r ≡ Memory) ⊎ (refusal ≡ Some r)
