-- What holds of the segments of data that isn't too big: an executable may have them, and text behind them (ELF64, "Program Header").
use Rattle.std.specs.Prelude.{◌≡◌, ℕ, ◌+◌, ◌%◌, ◌^◌, ◌<◌, ◌≤◌, ◌⊎◌, List, [], ◌∷◌, ◌++◌, length}
use Rattle.std.specs.List.{All}
use Rattle.elf64_exec.specs.declared.layout.Segment.{Segment}
use Rattle.elf64_exec.specs.declared.memory_map.TheConstants.{IMAGE_START, PAGE, READ_ONLY, WRITABLE}
use Rattle.elf64_exec.specs.Executable.{end_of, IsSound, ArePlaced, HasBytes, IsImage}
use Rattle.toc_groups.specs.Data.{read_only_end, writable_start, writable_end, commons_end, text_start}

-- the part that is only read: it begins where an image does, and the file has all of its bytes
pub record IsReadOnlyPart (files : List (List ℕ)) (s : Segment) : Type 0 where
  pub flags : s.flags ≡ READ_ONLY
  pub start : s.address ≡ IMAGE_START
  pub end : end_of s ≡ read_only_end files
  pub stored : length s.bytes ≡ s.size

-- the part that is written: it begins with the first TOC group and ends with the last common, and the file has its bytes up to the zeroed
-- sections
pub record IsWritablePart (files : List (List ℕ)) (span : ℕ) (s : Segment) : Type 0 where
  pub flags : s.flags ≡ WRITABLE
  pub start : s.address ≡ writable_start files
  pub end : end_of s ≡ commons_end files span
  pub stored : s.address + length s.bytes ≡ writable_end files span

-- a segment of data is one of the two, begins at a page, ends before text and is shorter than 2 GiB
pub record IsDataSegment (files : List (List ℕ)) (span : ℕ) (s : Segment) : Type 0 where
  pub part : IsReadOnlyPart files s ⊎ IsWritablePart files span s
  pub page : s.address % PAGE ≡ 0
  pub from : IMAGE_START ≤ s.address
  pub before_text : end_of s ≤ text_start files span
  pub short : s.size < 2 ^ 31

-- there are at most two, in order and without overlap; with a segment of text behind them, they are those of an executable
pub record ArePlacedSegments (files : List (List ℕ)) (span : ℕ) (segments : List Segment) : Type 0 where
  pub few : length segments ≤ 2
  pub placed : ArePlaced segments
  pub each : All (IsDataSegment files span) segments
  pub image : (text : Segment) → IsSound text → HasBytes text → text_start files span ≤ text.address →
      IsImage (segments ++ text ∷ [])
