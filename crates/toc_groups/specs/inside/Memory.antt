-- The memory of data while it is filled: the bytes of the segment that is only read, and those that the file has of the one that is
-- written.
use Rattle.std.specs.Prelude.{◌≡◌, ℕ, ◌+◌, ◌<◌, ◌≤◌, ◌⊎◌, ◌-◌, ◌^◌, List, length, slice_index, nat_lt, if◌then◌else◌}
use Rattle.elf64_exec.specs.declared.memory_map.TheConstants.{IMAGE_START}
use Rattle.toc_groups.specs.declared.pieces.DataEnds.{DataEnds}
use Rattle.toc_groups.specs.Contents.{HoldsBytes}
use Rattle.toc_groups.specs.Parts.{Covers}

pub record TwoParts : Type 0 where
  pub ends : DataEnds
  pub read_only : List ℕ
  pub writable : List ℕ

-- there are as many bytes as the segments have in the file, and the one begins behind the other
pub record IsShaped (ends : DataEnds) (read_only writable : List ℕ) : Type 0 where
  pub read_only_size : IMAGE_START + length read_only ≡ ends.read_only
  pub writable_size : ends.writable_start + length writable ≡ ends.writable
  pub order : ends.read_only ≤ ends.writable_start
  pub limit : ends.writable < 2 ^ 63

-- the byte at an address; 0 where there is none
unfoldable pub byte_of : TwoParts → ℕ → ℕ
byte_of m a =
    if nat_lt a IMAGE_START then 0
    else (if nat_lt a m.ends.writable_start then slice_index m.read_only (a - IMAGE_START)
    else slice_index m.writable (a - m.ends.writable_start))

-- so many bytes from an address on lie in one of the two
abbrev pub HasRange : DataEnds → ℕ → ℕ → Type 0
HasRange ends at n =
    ((IMAGE_START ≤ at) × (at + n ≤ ends.read_only)) ⊎ ((ends.writable_start ≤ at) × (at + n ≤ ends.writable))

-- bytes are put at an address, and all others stay
pub record Puts (old : ℕ → ℕ) (at : ℕ) (bytes : List ℕ) (new : ℕ → ℕ) : Type 0 where
  pub inside : HoldsBytes new at bytes
  pub outside : (a : ℕ) → (Covers at (length bytes) a → ⊥) → new a ≡ old a
