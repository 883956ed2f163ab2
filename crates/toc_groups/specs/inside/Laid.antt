-- Pieces while they are laid out.
use Rattle.std.specs.Prelude.{ℕ, ◌≡◌, ◌<◌, ◌≤◌, ◌+◌, ◌*◌, ◌==◌, List, length, map, slice_index, if◌then◌else◌}
use Rattle.std.specs.List.{range_with_len}
use Rattle.elf64_exec.specs.declared.memory_map.TheConstants.{IMAGE_START}
use Rattle.object_set.specs.declared.sort.Sort.{Sort}
use Rattle.object_set.specs.declared.sort.Sort.TheVariants.{Text, Zeroed, Toc, Writable, ReadOnly, Dropped}
use Rattle.object_set.specs.Walks.{section_walk, items_before, index_of, all_items}
use Rattle.toc_groups.specs.declared.extents.Extent.{Extent}
use Rattle.toc_groups.specs.declared.extents.TheConstants.{DATA_END}
use Rattle.toc_groups.specs.declared.slots.TheConstants.{SLOT_SIZE}
use Rattle.toc_groups.specs.declared.groups.TocGroup.{TocGroup}
use Rattle.toc_groups.specs.declared.groups.TheConstants.{GROUP_ALIGN, TOC_BIAS}
use Rattle.toc_groups.specs.declared.pieces.Ends.{Ends}
use Rattle.toc_groups.specs.declared.pieces.GroupStarts.{GroupStarts}
use Rattle.toc_groups.specs.declared.pieces.SectionAddresses.{SectionAddresses}
use Rattle.toc_groups.specs.declared.pieces.Runs.{Runs}
use Rattle.toc_groups.specs.declared.pieces.DataEnds.{DataEnds}
use Rattle.toc_groups.specs.declared.pieces.LaidPieces.{LaidPieces}
use Rattle.toc_groups.specs.Runs.{placed, behind, run_end, run_place, IsFitExtent}
use Rattle.toc_groups.specs.Sections.{sections_before}
use Rattle.toc_groups.specs.Groups.{tocs_of, slot_bytes, group_after, group_at, group_count}
use Rattle.toc_groups.specs.Data.{read_only_end, writable_start, groups_end, writable_end, zeroed_end, commons_end, toc_before, group_start, address_walk, piece_addresses}
use Rattle.toc_groups.specs.inside.Limits.{FitsData}

-- the room of a group
abbrev pub room_of : TocGroup → Extent
room_of group = record { size = group.size; align = GROUP_ALIGN }

-- data has room for a piece behind what ends here
pub record HasRoomAt (end : ℕ) (piece : Extent) : Type 0 where
  pub fit : IsFitExtent piece
  pub low : end ≤ DATA_END
  pub room : behind end piece ≤ DATA_END

-- and for a section of this sort
abbrev pub HasRoom : Extent → Ends → Sort → Type 0
HasRoom piece ends ReadOnly = HasRoomAt ends.read_only piece
HasRoom piece ends Toc = HasRoomAt ends.toc piece
HasRoom piece ends Writable = HasRoomAt ends.writable piece
HasRoom piece ends Zeroed = HasRoomAt ends.zeroed piece
HasRoom piece ends Text = Unit {0}
HasRoom piece ends Dropped = Unit {0}

-- its address, where the group of its file starts here
abbrev pub address_after : Extent → ℕ → Ends → Sort → ℕ
address_after piece start ends ReadOnly = placed ends.read_only piece
address_after piece start ends Toc = start + placed ends.toc piece
address_after piece start ends Writable = placed ends.writable piece
address_after piece start ends Zeroed = placed ends.zeroed piece
address_after piece start ends Text = 0
address_after piece start ends Dropped = 0

-- where what is laid out ends with it
abbrev pub ends_after : Extent → Ends → Sort → Ends
ends_after piece ends ReadOnly = record ends { read_only = behind ends.read_only piece }
ends_after piece ends Toc = record ends { toc = behind ends.toc piece }
ends_after piece ends Writable = record ends { writable = behind ends.writable piece }
ends_after piece ends Zeroed = record ends { zeroed = behind ends.zeroed piece }
ends_after piece ends Text = ends
ends_after piece ends Dropped = ends

-- where the `.toc` sections begin of a file of a group
abbrev pub toc_start : TocGroup → ℕ → ℕ → ℕ
toc_start group file toc = if group.first == file then SLOT_SIZE * length group.slots.items else toc

-- where pieces start, and where they end
pub record AreStarts (start : ℕ) (rooms : List Extent) (laid : GroupStarts) : Type 0 where
  pub starts : laid.starts.items ≡ map (run_place start rooms) (range_with_len 0 (length rooms))
  pub end : laid.end ≡ run_end start rooms

module _ (files : List (List ℕ)) (span : ℕ) where
  -- where the groups start
  abbrev pub AreGroupStarts : List ℕ → Type 0
  AreGroupStarts starts = starts ≡ map (group_start files span) (range_with_len 0 (group_count files span))

  -- where what comes before section i of a file ends, of each sort
  pub record AreEndsAt (file i : ℕ) (ends : Ends) : Type 0 where
    pub read_only : ends.read_only ≡ run_end IMAGE_START (sections_before files ReadOnly file i)
    pub toc : ends.toc ≡ toc_before files span file i
    pub writable : ends.writable ≡ run_end (groups_end files span) (sections_before files Writable file i)
    pub zeroed : ends.zeroed ≡ run_end (writable_end files span) (sections_before files Zeroed file i)

  -- where what comes before a file ends; of its group, where other files of it came before
  pub record AreEndsBefore (file : ℕ) (ends : Ends) : Type 0 where
    pub read_only : ends.read_only ≡ run_end IMAGE_START (sections_before files ReadOnly file 0)
    pub toc : (let last = group_after files span file in
        let whole = group_at files span last.number in
        0 < last.count → ends.toc ≡ run_end (slot_bytes files whole.first whole.count) (tocs_of files last.first last.count))
    pub writable : ends.writable ≡ run_end (groups_end files span) (sections_before files Writable file 0)
    pub zeroed : ends.zeroed ≡ run_end (writable_end files span) (sections_before files Zeroed file 0)

  -- the addresses of the sections of the first n files
  pub record AreAddresses (n : ℕ) (addresses : SectionAddresses) : Type 0 where
    pub pieces : addresses.pieces.items ≡ items_before (address_walk files span) files n
    pub firsts : addresses.firsts.items ≡ map (λ file. index_of section_walk files file 0) (range_with_len 0 n)

  -- the runs of sections
  pub record AreRuns (runs : Runs) : Type 0 where
    pub starts : AreGroupStarts runs.starts.items
    pub first : AreEndsBefore 0 runs.first
    pub fits : FitsData files span
    pub read_only : runs.read_only ≡ read_only_end files
    pub writable_start_is : runs.writable_start ≡ writable_start files
    pub zeroed : runs.zeroed ≡ zeroed_end files span

  -- all pieces
  pub record AreLaid (laid : LaidPieces) : Type 0 where
    pub pieces : laid.addresses.pieces.items ≡ piece_addresses files span
    pub firsts : laid.addresses.firsts.items ≡ map (λ file. index_of section_walk files file 0) (range_with_len 0 (length files))
    pub commons : laid.commons ≡ length (all_items section_walk files)
    pub starts : AreGroupStarts laid.starts.items
    pub fits : FitsData files span
    pub read_only : laid.ends.read_only ≡ read_only_end files
    pub writable_start_is : laid.ends.writable_start ≡ writable_start files
    pub writable : laid.ends.writable ≡ writable_end files span
    pub commons_end_is : laid.ends.commons ≡ commons_end files span

-- the end of the last piece that isn't empty
abbrev pub data_end_in : DataEnds → ℕ
data_end_in ends = if ends.commons == ends.writable_start then ends.read_only else ends.commons

-- the base of a group with this number
abbrev pub base_at : List ℕ → ℕ → ℕ
base_at starts number = slice_index starts number + TOC_BIAS
