-- The parts of data: sections, slots and commons, and the addresses that they take.
use Rattle.std.specs.Prelude.{◌≡◌, ℕ, ◌+◌, ◌*◌, ◌<◌, ◌≤◌, Bool, true, false, List, length}
use Rattle.std.specs.List.{slice_index_or}
use Rattle.elf64_records.specs.FileHeader.{e_shnum}
use Rattle.elf64_records.specs.Sections.{sh_size}
use Rattle.object_set.specs.declared.sort.Sort.{Sort}
use Rattle.object_set.specs.declared.sort.Sort.TheVariants.{Text, Zeroed, Toc, Writable, ReadOnly, Dropped}
use Rattle.object_set.specs.Files.{file_at}
use Rattle.object_set.specs.Sections.{sort_of}
use Rattle.symbol_table.specs.declared.target.Piece.{Piece}
use Rattle.symbol_table.specs.declared.target.Piece.TheVariants as piece
use Rattle.symbol_table.specs.declared.target.Target.{Target}
use Rattle.symbol_table.specs.declared.target.Target.TheVariants.{Data, Code, Number, TocBase, WeakNone}
use Rattle.symbol_table.specs.Text.{text_sections}
use Rattle.toc_groups.specs.declared.slots.TheConstants.{SLOT_SIZE}
use Rattle.toc_groups.specs.Runs.{no_piece}
use Rattle.toc_groups.specs.Sections.{commons_of}
use Rattle.toc_groups.specs.Groups.{group_count}
use Rattle.toc_groups.specs.Data.{group_start, group_slots, section_address, common_address}

-- so many bytes from an address on have another address among theirs
pub record Covers (start size a : ℕ) : Type 0 where
  pub from : start ≤ a
  pub below : a < start + size

-- a section of this sort is data
abbrev pub is_laid_sort : Sort → Bool
is_laid_sort Text = false
is_laid_sort Zeroed = true
is_laid_sort Toc = true
is_laid_sort Writable = true
is_laid_sort ReadOnly = true
is_laid_sort Dropped = false

-- a part of data: section i of a file, slot k of a group, or a common
pub data Part : Type 0 where
  of_section : (file i : ℕ) → Part
  of_slot : (g k : ℕ) → Part
  of_common : (c : ℕ) → Part

-- where slot k of group g lies
abbrev pub slot_place : List (List ℕ) → ℕ → ℕ → ℕ → ℕ
slot_place files span g k = group_start files span g + SLOT_SIZE * k

module _ (files : List (List ℕ)) (span : ℕ) where
  abbrev pub start_of : Part → ℕ
  start_of (of_section file i) = section_address files span file (file_at files file) i
  start_of (of_slot g k) = slot_place files span g k
  start_of (of_common c) = common_address files span c

  abbrev pub size_of : Part → ℕ
  size_of (of_section file i) = sh_size (file_at files file) i
  size_of (of_slot g k) = SLOT_SIZE
  size_of (of_common c) = (slice_index_or (commons_of files) c no_piece).size

  -- a part that there is
  abbrev pub IsPart : Part → Type 0
  IsPart (of_section file i) =
      (file < length files) × (i < e_shnum (file_at files file)) × (is_laid_sort (sort_of (file_at files file) i) ≡ true)
  IsPart (of_slot g k) = (g < group_count files span) × (k < length (group_slots files span g))
  IsPart (of_common c) = c < length (commons_of files)

  -- it has an address among its own
  pub record Takes (p : Part) (a : ℕ) : Type 0 where
    pub is : IsPart p
    pub covers : Covers (start_of p) (size_of p) a

-- a section or a common of the files
abbrev pub IsPieceOf : List (List ℕ) → Piece → Type 0
IsPieceOf files (piece.Section file i) = (file < length files) × (i < e_shnum (file_at files file))
IsPieceOf files (piece.Common c) = c < length (commons_of files)

-- a target whose piece, file or text section is one of the files'
abbrev pub IsTargetOf : List (List ℕ) → Target → Type 0
IsTargetOf files (Data piece addend) = IsPieceOf files piece
IsTargetOf files (Code section offset) = section < length (text_sections files)
IsTargetOf files (Number n) = Unit {0}
IsTargetOf files (TocBase file addend) = file < length files
IsTargetOf files (WeakNone addend) = Unit {0}
