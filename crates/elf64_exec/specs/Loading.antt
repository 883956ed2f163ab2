-- What an executable's bytes stand for: its entry and segments, or the first thing that is wrong with it
-- (System V gABI, "ELF Header" and "Program Header"; ELFv2 ABI, "ELF Header"). Sums have no bound.
use Rattle.std.specs.Prelude.{ℕ, ◌≡◌, ◌+◌, ◌*◌, ◌<◌, ◌≤◌, ◌⊎◌, ◌==◌, ◌&&◌, if◌then◌else◌, nat_lt, List, length, take, drop, Option, Some, None}
use Rattle.std.specs.List.{filter_map, range_with_len}
use Rattle.ppc_bytes.specs.Bytes.{number_at}
pub use Rattle.ppc_bytes.specs.Elf.{e_type, e_flags}
use Rattle.ppc_bytes.specs.Elf.{HasMagic, IsPpc64Le}
use Rattle.elf64_exec.specs.declared.layout.Segment.{Segment}
use Rattle.elf64_exec.specs.declared.memory_map.TheConstants.{MEMORY_END}
use Rattle.elf64_exec.specs.declared.layout.ExecFault.{ExecFault}
use Rattle.elf64_exec.specs.declared.layout.ExecFault.TheVariants.{NotElf, NotExec, BadSegment, Memory}

-- the fields of the file header
abbrev pub e_entry : List ℕ → ℕ
e_entry file = number_at 8 file 24

abbrev pub e_phoff : List ℕ → ℕ
e_phoff file = number_at 8 file 32

abbrev pub e_phentsize : List ℕ → ℕ
e_phentsize file = number_at 2 file 54

abbrev pub e_phnum : List ℕ → ℕ
e_phnum file = number_at 2 file 56

-- where the program header with a number stands, and its fields
abbrev pub header_start : List ℕ → ℕ → ℕ
header_start file i = e_phoff file + 56 * i

abbrev pub p_type : List ℕ → ℕ → ℕ
p_type file i = number_at 4 file (header_start file i)

abbrev pub p_flags : List ℕ → ℕ → ℕ
p_flags file i = number_at 4 file (header_start file i + 4)

abbrev pub p_offset : List ℕ → ℕ → ℕ
p_offset file i = number_at 8 file (header_start file i + 8)

abbrev pub p_vaddr : List ℕ → ℕ → ℕ
p_vaddr file i = number_at 8 file (header_start file i + 16)

abbrev pub p_filesz : List ℕ → ℕ → ℕ
p_filesz file i = number_at 8 file (header_start file i + 32)

abbrev pub p_memsz : List ℕ → ℕ → ℕ
p_memsz file i = number_at 8 file (header_start file i + 40)

-- the file header is that of an executable for this machine, whose program headers lie in the file
pub record IsExecHeader (file : List ℕ) : Type 0 where
  pub whole : 64 ≤ length file
  pub machine : IsPpc64Le file
  pub executable : e_type file ≡ 2
  pub abi : (e_flags file ≡ 0) ⊎ (e_flags file ≡ 2)
  pub header_size : e_phentsize file ≡ 56
  pub some : 0 < e_phnum file
  pub inside : e_phoff file + 56 * e_phnum file ≤ length file

-- a program header names bytes to be loaded (PT_LOAD)
abbrev pub IsLoad : List ℕ → ℕ → Type 0
IsLoad file i = p_type file i ≡ 1

-- the end of its memory
abbrev pub load_end : List ℕ → ℕ → ℕ
load_end file i = p_vaddr file i + p_memsz file i

-- such a header can be loaded: its bytes are in the file and in its memory, which ends within the memory of
-- a program and begins after each earlier one
pub record CanLoad (file : List ℕ) (i : ℕ) : Type 0 where
  pub inside : p_offset file i + p_filesz file i ≤ length file
  pub held : p_filesz file i ≤ p_memsz file i
  pub below : load_end file i ≤ MEMORY_END
  pub after : (j : ℕ) → j < i → IsLoad file j → load_end file j ≤ p_vaddr file i

-- every other header is skipped
abbrev pub IsGood : List ℕ → ℕ → Type 0
IsGood file i = IsLoad file i → CanLoad file i

-- what a fault says of a file: it is the first that holds. Want of memory says nothing.
abbrev pub HasFault : List ℕ → ExecFault → Type 0
HasFault file NotElf = ¬ HasMagic file
HasFault file NotExec = HasMagic file × (¬ IsExecHeader file)
HasFault file (BadSegment i) =
    HasMagic file × IsExecHeader file × (i < e_phnum file) × (¬ IsGood file i) × ((j : ℕ) → j < i → IsGood file j)
HasFault file Memory = Unit {0}

-- the bytes that a header names
abbrev pub loaded_bytes : List ℕ → ℕ → List ℕ
loaded_bytes file i = take (p_filesz file i) (drop (p_offset file i) file)

-- the segment that a header gives, if it is to be loaded and isn't empty
abbrev pub segment_of : List ℕ → ℕ → Option Segment
segment_of file i =
    if p_type file i == 1 && nat_lt 0 (p_memsz file i)
    then Some (record {
      flags = p_flags file i;
      address = p_vaddr file i;
      bytes = loaded_bytes file i;
      size =
          p_memsz file i;
    })
    else None

-- the segments of the first program headers
abbrev pub segments_upto : List ℕ → ℕ → List Segment
segments_upto file count = filter_map (segment_of file) (range_with_len 0 count)

-- a file has no fault, and stands for this entry and these segments
pub record Loads (file : List ℕ) (entry : ℕ) (segments : List Segment) : Type 0 where
  pub magic : HasMagic file
  pub header : IsExecHeader file
  pub good : (i : ℕ) → i < e_phnum file → IsGood file i
  pub entry_is : entry ≡ e_entry file
  pub segments_are : segments ≡ segments_upto file (e_phnum file)
