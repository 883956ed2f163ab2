-- The regions of an address space: their order, and which of them has so many bytes at an address.
use Rattle.std.specs.Prelude.{◌≡◌, ℕ, ◌+◌, ◌*◌, ◌≤◌, ◌<◌, true, false, List, length, Option, Some, None, slice_index_or, if◌then◌else◌}
use Rattle.std.specs.List.{position}
use Rattle.power_insns.specs.declared.meaning.Width.{Width}
use Rattle.power_insns.specs.Arithmetic.{bytes_of}
use Rattle.power_machine.specs.declared.memory.Purpose.{Purpose}
use Rattle.power_machine.specs.declared.memory.Purpose.TheVariants.{Loading, Storing}
use Rattle.power_machine.specs.declared.memory.Stored.{Stored}
use Rattle.power_machine.specs.declared.memory.Stored.TheVariants.{Whole, Outside, Refused}
use Rattle.power_machine.specs.declared.memory.Region.{Region}
use Rattle.power_machine.specs.Bytes.{spelled}
use Rattle.power_machine.specs.Memory.{Permission, holds, range_of, ranges_of, stop_of, base_of, byte_at, bytes_from, put, allows, allows_range, keeps_page}
use Rattle.power_machine.specs.Paging.{span_at, kept_with}
use Rattle.power_machine.specs.Memory.{within}

-- the regions end at or below 2^31, are in order of their addresses, none overlaps another, and each has the pages of its addresses
pub record InOrder (regions : List Region) : Type 0 where
  pub low : (i : ℕ) (d : Region) → i < length regions → stop_of (slice_index_or regions i d) ≤ 0x80000000
  pub apart :
      (i j : ℕ) (d : Region) →
      i < j →
      j < length regions →
      stop_of (slice_index_or regions i d) ≤ (slice_index_or regions j d).start
  pub paged :
      (i : ℕ) (d : Region) →
      i < length regions →
      stop_of (slice_index_or regions i d) ≤ base_of (slice_index_or regions i d).start + 0x1000 * length (slice_index_or regions i d).pages

-- so many regions, those in front, begin at or below an address, and the others behind it
pub record BeginBy (regions : List Region) (at count : ℕ) : Type 0 where
  pub within : count ≤ length regions
  pub begun : (i : ℕ) (d : Region) → i < count → (slice_index_or regions i d).start ≤ at
  pub ahead : (i : ℕ) (d : Region) → count ≤ i → i < length regions → at < (slice_index_or regions i d).start

-- the first region that holds so many bytes at an address
abbrev pub place_of : Purpose → ℕ → ℕ → List Region → Option ℕ
place_of purpose at count regions = position (λ r. holds purpose at count (range_of r)) regions

-- the region with this index has them
pub record IsPlace (purpose : Purpose) (at count : ℕ) (regions : List Region) (index : ℕ) : Type 0 where
  pub within : index < length regions
  pub starts : (d : Region) → (slice_index_or regions index d).start ≤ at
  pub ends : (d : Region) → at + count ≤ stop_of (slice_index_or regions index d)
  pub low : (d : Region) → stop_of (slice_index_or regions index d) ≤ 0x80000000
  pub paged :
      (d : Region) →
      stop_of (slice_index_or regions index d) ≤ base_of (slice_index_or regions index d).start
      + 0x1000 * length (slice_index_or regions index d).pages

-- what the regions permit
abbrev pub permitted : List Region → Permission
permitted regions = within (ranges_of regions)

-- the number at an address, where it may be used
abbrev pub number_read : Purpose → ℕ → Width → List Region → Option ℕ
number_read purpose at width regions =
    if allows purpose at (bytes_of width) (ranges_of regions) then Some (spelled (bytes_from (byte_at regions) at (bytes_of width))) else
    None

-- the first bytes at an address, where so many may be loaded
abbrev pub bytes_read : ℕ → ℕ → ℕ → List Region → Option (List ℕ)
bytes_read at room count regions = if allows Loading at room (ranges_of regions) then Some (bytes_from (byte_at regions) at count) else None

-- the first bytes of a call's range
abbrev pub range_read : ℕ → ℕ → ℕ → List Region → Option (List ℕ)
range_read at room count regions =
    if allows_range (permitted regions) Loading at room then Some (bytes_from (byte_at regions) at count) else None

-- these bytes are at an address now, and all others stay; their pages are kept, and those that were
pub record Puts (old new : List Region) (at : ℕ) (bytes : List ℕ) : Type 0 where
  pub bytes_are : byte_at new ≡ put (byte_at old) at bytes
  pub pages_are : keeps_page new ≡ kept_with (keeps_page old) (Some (span_at at (length bytes)))

-- what became of bytes that were to be stored where there is room
abbrev pub Writes : List Region → List Region → ℕ → ℕ → List ℕ → Stored → Type 0
Writes old new at room bytes Whole = (allows Storing at room (ranges_of old) ≡ true) × Puts old new at bytes
Writes old new at room bytes Outside = (allows Storing at room (ranges_of old) ≡ false) × (new ≡ old)
Writes old new at room bytes Refused = (allows Storing at room (ranges_of old) ≡ true) × (new ≡ old)
