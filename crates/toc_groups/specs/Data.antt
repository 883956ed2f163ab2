-- Where data lies: in a segment that is only read the read-only sections; in one that is written the TOC groups, the writable and the
-- zeroed sections, and the commons (ELF64, "Program Header"; ELFv2 ABI, 3.3 "TOC"). Text comes behind.
use Rattle.std.specs.Prelude.{ℕ, ◌+◌, ◌-◌, ◌*◌, List, [], ◌∷◌, ◌++◌, ◌==◌, nat_lt, length, map, position, Option, Some, None}
use Rattle.std.specs.Prelude.{if◌then◌else◌}
use Rattle.std.specs.List.{range_with_len}
use Rattle.std.specs.Option.{option_map}
use Rattle.elf64_records.specs.First.{when}
use Rattle.elf64_records.specs.FileHeader.{e_shnum}
use Rattle.elf64_records.specs.Symbols.{symbol_count}
use Rattle.elf64_exec.specs.declared.memory_map.TheConstants.{IMAGE_START, PAGE}
use Rattle.layout_rounds.specs.Shapes.{aligned}
use Rattle.object_set.specs.declared.refusal.Refusal.{Refusal}
use Rattle.object_set.specs.declared.refusal.Refusal.TheVariants.{DataTooBig}
use Rattle.object_set.specs.declared.places.SymbolId.{SymbolId}
use Rattle.object_set.specs.declared.sort.Sort.{Sort}
use Rattle.object_set.specs.declared.sort.Sort.TheVariants.{Text, Zeroed, Toc, Writable, ReadOnly, Dropped}
use Rattle.object_set.specs.Files.{file_at}
use Rattle.object_set.specs.Sections.{sort_of}
use Rattle.object_set.specs.Walks.{Walk, items_in, all_items}
use Rattle.symbol_table.specs.declared.target.Piece.{Piece}
use Rattle.symbol_table.specs.declared.target.Piece.TheVariants as piece
use Rattle.symbol_table.specs.declared.target.Target.{Target}
use Rattle.symbol_table.specs.declared.target.Target.TheVariants as target
use Rattle.symbol_table.specs.Targets.{plus_addend}
use Rattle.toc_groups.specs.declared.extents.Extent.{Extent}
use Rattle.toc_groups.specs.declared.extents.TheConstants.{DATA_LIMIT}
use Rattle.toc_groups.specs.declared.groups.TheConstants.{TOC_BIAS}
use Rattle.toc_groups.specs.declared.slots.TheConstants.{SLOT_SIZE}
use Rattle.toc_groups.specs.Runs.{placed, run_end, run_place}
use Rattle.toc_groups.specs.Sections.{section_extent, sort_walk, sections_of, sections_before, commons_of}
use Rattle.toc_groups.specs.Slots.{symbol_id, shares_slot, slots_of, names_symbol}
use Rattle.toc_groups.specs.Groups.{tocs_of, slot_bytes, group_with, group_number, group_at, group_extents}

-- the segment that is only read begins where the image does
abbrev pub read_only_end : List (List ℕ) → ℕ
read_only_end files = run_end IMAGE_START (sections_of files ReadOnly)

-- the one that is written begins at the next page, with the TOC groups
abbrev pub writable_start : List (List ℕ) → ℕ
writable_start files = aligned (read_only_end files) PAGE

module _ (files : List (List ℕ)) (span : ℕ) where
  abbrev pub groups_end : ℕ
  groups_end = run_end (writable_start files) (group_extents files span)

  abbrev pub writable_end : ℕ
  writable_end = run_end groups_end (sections_of files Writable)

  abbrev pub zeroed_end : ℕ
  zeroed_end = run_end writable_end (sections_of files Zeroed)

  abbrev pub commons_end : ℕ
  commons_end = run_end zeroed_end (commons_of files)

  -- the end of the last piece that isn't empty, in the segment that is written or, where that has none, in the one before
  abbrev pub data_end : ℕ
  data_end = if commons_end == writable_start files then read_only_end files else commons_end

  -- text begins at the next page
  abbrev pub text_start : ℕ
  text_start = aligned data_end PAGE

  -- the symbols for which the slots of group g were made
  abbrev pub group_slots : ℕ → List SymbolId
  group_slots g = slots_of files (group_at files span g).first (group_at files span g).count

  -- where group g begins
  abbrev pub group_start : ℕ → ℕ
  group_start g = run_place (writable_start files) (group_extents files span) g

  -- the TOC base of a file's group: past its start by the bias of a signed 16-bit offset
  abbrev pub base_of : ℕ → ℕ
  base_of file = group_start (group_number files span file) + TOC_BIAS

  -- how far into a group the parts reach that come before section i of one of its files: the slots, and `.toc` sections
  abbrev pub toc_before : ℕ → ℕ → ℕ
  toc_before file i =
      let group = group_with files span file in
      let whole = group_at files span group.number in
      run_end (slot_bytes files whole.first whole.count)
      (tocs_of files group.first (group.count - 1) ++ items_in (sort_walk Toc) file (file_at files file) i)

  -- where section i of a file lies, by its sort: behind those of its sort that come before it; 0 where it isn't data
  abbrev pub address_by_sort : ℕ → ℕ → Extent → Sort → ℕ
  address_by_sort file i piece ReadOnly = placed (run_end IMAGE_START (sections_before files ReadOnly file i)) piece
  address_by_sort file i piece Toc = group_start (group_number files span file) + placed (toc_before file i) piece
  address_by_sort file i piece Writable = placed (run_end groups_end (sections_before files Writable file i)) piece
  address_by_sort file i piece Zeroed = placed (run_end writable_end (sections_before files Zeroed file i)) piece
  address_by_sort file i piece Text = 0
  address_by_sort file i piece Dropped = 0

  abbrev pub section_address : ℕ → List ℕ → ℕ → ℕ
  section_address file b i = address_by_sort file i (section_extent b i) (sort_of b i)

  abbrev pub address_walk : Walk ℕ
  address_walk = record { count = e_shnum; items = λ file b i. section_address file b i ∷ [] }

  -- where common c lies
  abbrev pub common_address : ℕ → ℕ
  common_address c = run_place zeroed_end (commons_of files) c

  -- the addresses of all sections, in order of file and number, and of all commons
  abbrev pub piece_addresses : List ℕ
  piece_addresses =
      all_items address_walk files ++ map common_address (range_with_len 0 (length (commons_of files)))

  abbrev pub piece_address : Piece → ℕ
  piece_address (piece.Section file i) = section_address file (file_at files file) i
  piece_address (piece.Common c) = common_address c

  -- where a target lies in data, or the number that it is; a place in text lies at no address that data would tell
  abbrev pub target_address : Target → Option ℕ
  target_address (target.Data piece addend) = Some (plus_addend (piece_address piece) addend)
  target_address (target.Code section offset) = None
  target_address (target.Number n) = Some n
  target_address (target.TocBase file addend) = Some (plus_addend (base_of file) addend)
  target_address (target.WeakNone addend) = Some (plus_addend 0 addend)

  -- the number of the slot of symbol j of a file among those of the file's group, where a load of that file names the symbol
  abbrev pub slot_number : ℕ → ℕ → Option ℕ
  slot_number file j =
      let whole = group_at files span (group_number files span file) in
      if names_symbol files file j
      then position (shares_slot files (symbol_id file j)) (slots_of files whole.first whole.count)
      else None

  -- those of all symbols of a file
  abbrev pub slot_row : ℕ → List (Option ℕ)
  slot_row file = map (slot_number file) (range_with_len 0 (symbol_count (file_at files file)))

  -- where that slot lies
  abbrev pub slot_address : ℕ → ℕ → Option ℕ
  slot_address file j =
      option_map (λ k. group_start (group_number files span file) + SLOT_SIZE * k) (slot_number file j)

  -- data has at most so many bytes
  abbrev pub data_refusal : Option Refusal
  data_refusal = when (nat_lt DATA_LIMIT (data_end - IMAGE_START)) DataTooBig
