-- The ends of a group's `.toc` sections.
use Rattle.std.specs.Prelude.{ℕ, ◌≡◌, ◌+◌, ◌<◌, ◌≤◌, ◌*◌, ◌^◌, List, length, slice_index}
use Rattle.ppc_bytes.specs.Bytes.{IsPowerOfTwo}
use Rattle.toc_groups.specs.declared.extents.Extent.{Extent}
use Rattle.toc_groups.specs.declared.slots.TheConstants.{SLOT_SIZE}
use Rattle.toc_groups.specs.declared.toc_ends.TheConstants.{TURN}
use Rattle.toc_groups.specs.declared.groups.TheConstants.{GROUP_ALIGN}
use Rattle.toc_groups.specs.Runs.{run_end}
use Rattle.toc_groups.specs.Groups.{tocs_of}

-- a `.toc` section aligns at most as its group does
pub record IsTocExtent (piece : Extent) : Type 0 where
  pub power : IsPowerOfTwo piece.align
  pub most : piece.align ≤ GROUP_ALIGN

-- where sections end that begin behind so many slots, for each number below a turn
pub record AreEnds (sections : List Extent) (ends : List ℕ) : Type 0 where
  pub count : length ends ≡ TURN
  pub each : (i : ℕ) → i < TURN → slice_index ends i ≡ run_end (SLOT_SIZE * i) sections

-- so low that a section more doesn't wrap
pub record AreLow (ends : List ℕ) : Type 0 where
  pub count : length ends ≡ TURN
  pub low : (i : ℕ) → i < TURN → slice_index ends i < 2 ^ 63

-- where the `.toc` sections end of the files of a group up to a file, behind so many slots
pub record AreFileEnds (files : List (List ℕ)) (file : ℕ) (ends : List ℕ) : Type 0 where
  pub first : ℕ
  pub count : ℕ
  pub last : first + count ≡ file
  pub are : AreEnds (tocs_of files first count) ends
