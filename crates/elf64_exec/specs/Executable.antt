-- The one file of an entry and segments: a file header, program headers and the segments' bytes
-- (System V gABI, "ELF Header" and "Program Header"; ELFv2 ABI, "ELF Header").
use Rattle.std.specs.Prelude.{ℕ, ◌+◌, ◌-◌, ◌*◌, ◌/◌, ◌<◌, ◌≤◌, List, [], ◌∷◌, ◌++◌, length, replicate}
use Rattle.std.specs.List.{All, AllPairs, HoldsAt}
use Rattle.byteorder.specs.Endian.{little_bytes}
use Rattle.elf64_exec.specs.declared.layout.Segment.{Segment}
use Rattle.elf64_exec.specs.declared.memory_map.TheConstants.{MEMORY_END, PAGE}

-- numbers of two, four and eight bytes, the lowest byte first
unfoldable pub half : ℕ → List ℕ
half x = little_bytes 2 x

unfoldable pub word : ℕ → List ℕ
word x = little_bytes 4 x

unfoldable pub long : ℕ → List ℕ
long x = little_bytes 8 x

-- ELF, of 64 bits, the lowest byte first, version 1
unfoldable pub identification : List ℕ
identification = 0x7F ∷ 0x45 ∷ 0x4C ∷ 0x46 ∷ 2 ∷ 1 ∷ 1 ∷ 0 ∷ 0 ∷ 0 ∷ 0 ∷ 0 ∷ 0 ∷ 0 ∷ 0 ∷ 0 ∷ []

-- the 64 bytes of the file header, with so many program headers right after it
unfoldable pub file_header : ℕ → ℕ → List ℕ
file_header entry count =
    identification
    ++ half 2  -- e_type: an executable
    ++ half 21  -- e_machine: 64-bit Power
    ++ word 1  -- e_version
    ++ long entry  -- e_entry
    ++ long 64  -- e_phoff
    ++ long 0  -- e_shoff
    ++ word 2  -- e_flags: ELFv2
    ++ half 64  -- e_ehsize
    ++ half 56  -- e_phentsize
    ++ half count  -- e_phnum
    ++ half 0  -- e_shentsize
    ++ half 0  -- e_shnum
    ++ half 0  -- e_shstrndx

-- the 56 bytes of the program header of a segment whose bytes stand at a file offset
unfoldable pub program_header : ℕ → Segment → List ℕ
program_header offset s =
    word 1  -- p_type: a segment to load
    ++ word s.flags  -- p_flags
    ++ long offset  -- p_offset
    ++ long s.address  -- p_vaddr
    ++ long s.address  -- p_paddr
    ++ long (length s.bytes)  -- p_filesz
    ++ long s.size  -- p_memsz
    ++ long PAGE  -- p_align

-- the least multiple of the page from n on
abbrev pub page_up : ℕ → ℕ
page_up n = (n + (PAGE - 1)) / PAGE * PAGE

-- the program headers of segments, where the file has so many bytes before the bytes of the first: each
-- segment's bytes stand at the next page
abbrev pub program_headers : ℕ → List Segment → List ℕ
program_headers end [] = []
program_headers end (s ∷ rest) =
    program_header (page_up end) s ++ program_headers (page_up end + length s.bytes) rest

-- where the file of those segments ends
abbrev pub file_end : ℕ → List Segment → ℕ
file_end end [] = end
file_end end (s ∷ rest) = file_end (page_up end + length s.bytes) rest

-- their bytes, with zeros before each
abbrev pub contents : ℕ → List Segment → List ℕ
contents end [] = []
contents end (s ∷ rest) =
    replicate (page_up end - end) 0 ++ s.bytes ++ contents (page_up end + length s.bytes) rest

-- how long the file's headers are
abbrev pub header_length : List Segment → ℕ
header_length segments = 64 + 56 * length segments

-- the executable
unfoldable pub executable : ℕ → List Segment → List ℕ
executable entry segments =
    file_header entry (length segments) ++ program_headers (header_length segments) segments
    ++ contents (header_length segments) segments

-- the end of a segment's memory
abbrev pub end_of : Segment → ℕ
end_of s = s.address + s.size

-- a segment isn't empty, ends within the memory of a program, and has no more bytes than its size
pub record IsSound (s : Segment) : Type 0 where
  pub some : 0 < s.size
  pub below : end_of s ≤ MEMORY_END
  pub held : length s.bytes ≤ s.size

-- one segment ends before another begins
abbrev pub IsBefore : Segment → Segment → Type 0
IsBefore s t = end_of s ≤ t.address

-- segments that a program may have: each is sound, and they are in order of their addresses without overlap
pub record ArePlaced (segments : List Segment) : Type 0 where
  pub sound : All IsSound segments
  pub apart : AllPairs IsBefore segments

abbrev pub HasBytes : Segment → Type 0
HasBytes s = 0 < length s.bytes

-- segments of which an executable is made: one to three, the last with at least one byte
pub record IsImage (segments : List Segment) : Type 0 where
  pub placed : ArePlaced segments
  pub some : 1 ≤ length segments
  pub few : length segments ≤ 3
  pub ends : HoldsAt HasBytes segments (length segments - 1)
