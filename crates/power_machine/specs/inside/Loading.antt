-- How the machine keeps an executable's segments and the stack.
use Rattle.std.specs.Prelude.{◌≡◌, ◌+◌, ◌-◌, ◌*◌, ◌/◌, ◌%◌, ◌<◌, ◌≤◌, ◌==◌, List, [], ◌∷◌, length}
use Rattle.elf64_exec.specs.declared.layout.Segment.{Segment}
use Rattle.elf64_exec.specs.Executable.{end_of}
use Rattle.power_machine.specs.declared.memory.Region.{Region}
use Rattle.power_machine.specs.Memory.{put, base_of, stop_of}
use Rattle.power_machine.specs.Paging.{byte_in}
use Rattle.power_machine.specs.inside.Paged.{IsTight}

-- the stack, as a segment that has no bytes in a file
abbrev pub stack : Segment
stack = record { flags = 6; address = 0x7F800000; bytes = []; size = 0x800000 }

-- a segment isn't empty, ends at or below 2^31, and has no more bytes than its size
pub record Fits (s : Segment) : Type 0 where
  pub some : 0 < s.size
  pub below : end_of s ≤ 0x80000000
  pub held : length s.bytes ≤ s.size

-- the region of a segment
pub record IsRegionOf (s : Segment) (r : Region) : Type 0 where
  pub start : r.start ≡ s.address
  pub size : r.size ≡ s.size
  pub writable : r.writable ≡ (s.flags / 2 % 2 == 1)
  pub executable : r.executable ≡ (s.flags % 2 == 1)
  pub paged : stop_of r ≤ base_of r.start + 0x1000 * length r.pages
  pub bytes : byte_in r.pages ≡ put (λ k. 0) (s.address - base_of s.address) s.bytes
  pub tight : IsTight r.pages

-- the regions of segments, in order
abbrev pub AreRegionsOf : List Segment → List Region → Type 0
AreRegionsOf [] [] = Unit {0}
AreRegionsOf (s ∷ segments) (r ∷ regions) = IsRegionOf s r × AreRegionsOf segments regions
AreRegionsOf segments regions = ⊥
