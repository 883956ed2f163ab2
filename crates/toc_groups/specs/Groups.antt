-- TOC groups: the files that share one TOC base (ELFv2 ABI, 3.3 "TOC"). A 16-bit offset from the base reaches so many bytes, the TOC
-- span; so files join a group while it isn't longer.
use Rattle.std.specs.Prelude.{◌≡◌, ℕ, zero, suc, ◌+◌, ◌*◌, ◌%◌, ◌≤◌, List, [], ◌++◌, ◌||◌, ◌==◌, nat_le, length, map, if◌then◌else◌}
use Rattle.std.specs.List.{range_with_len}
use Rattle.elf64_records.specs.FileHeader.{e_shnum}
use Rattle.object_set.specs.declared.sort.Sort.TheVariants.{Toc}
use Rattle.object_set.specs.Files.{file_at}
use Rattle.object_set.specs.Walks.{items_in}
use Rattle.toc_groups.specs.declared.extents.Extent.{Extent}
use Rattle.toc_groups.specs.declared.slots.TheConstants.{SLOT_SIZE}
use Rattle.toc_groups.specs.declared.groups.TheConstants.{GROUP_ALIGN}
use Rattle.toc_groups.specs.Runs.{run_end}
use Rattle.toc_groups.specs.Sections.{sort_walk}
use Rattle.toc_groups.specs.Slots.{slots_of}

-- the `.toc` sections of n files, the first of which is this one, in order of file and number
abbrev pub tocs_of : List (List ℕ) → ℕ → ℕ → List Extent
tocs_of files first zero = []
tocs_of files first (suc n) =
    let b = file_at files (first + n) in
    tocs_of files first n ++ items_in (sort_walk Toc) (first + n) b (e_shnum b)

-- how many bytes the slots of these files take
abbrev pub slot_bytes : List (List ℕ) → ℕ → ℕ → ℕ
slot_bytes files first n = SLOT_SIZE * length (slots_of files first n)

-- how many bytes a group of these files has: its slots, and behind them its `.toc` sections
abbrev pub group_size : List (List ℕ) → ℕ → ℕ → ℕ
group_size files first n = run_end (slot_bytes files first n) (tocs_of files first n)

-- a group: its number, its first file, and how many files it has
pub record Group : Type 0 where
  pub number : ℕ
  pub first : ℕ
  pub count : ℕ

module _ (files : List (List ℕ)) (span : ℕ) where
  -- the group that a file joins: the last one, where that has no file yet or isn't longer than the span with this file too; else the
  -- file begins the next
  abbrev pub joined : Group → ℕ → Group
  joined last file =
      if last.count == 0 || nat_le (group_size files last.first (suc last.count)) span
      then record { number = last.number; first = last.first; count = suc last.count }
      else record { number = suc last.number; first = file; count = 1 }

  -- the last group when the first n files have joined
  abbrev pub group_after : ℕ → Group
  group_after zero = record { number = 0; first = 0; count = 0 }
  group_after (suc n) = joined (group_after n) n

  -- the group of a file, as that file leaves it
  abbrev pub group_with : ℕ → Group
  group_with file = group_after (suc file)

  -- the number of a file's group
  abbrev pub group_number : ℕ → ℕ
  group_number file = (group_with file).number

  -- how many groups the first n files make
  abbrev pub groups_after : ℕ → ℕ
  groups_after zero = 0
  groups_after (suc n) = suc (group_number n)

  -- group g as the last of the first n files leaves it that is in it
  abbrev pub group_among : ℕ → ℕ → Group
  group_among g zero = record { number = g; first = 0; count = 0 }
  group_among g (suc n) = if group_number n == g then group_with n else group_among g n

  abbrev pub group_count : ℕ
  group_count = groups_after (length files)

  -- group g with all its files
  abbrev pub group_at : ℕ → Group
  group_at g = group_among g (length files)

  -- the room of a group: it begins at a multiple of 256
  abbrev pub group_extent : ℕ → Extent
  group_extent g = record { size = group_size files (group_at g).first (group_at g).count; align = GROUP_ALIGN }

  abbrev pub group_extents : List Extent
  group_extents = map group_extent (range_with_len 0 group_count)

-- a TOC span that may be asked for
pub record IsTocSpan (span : ℕ) : Type 0 where
  pub whole : span % 8 ≡ 0
  pub least : 16 ≤ span
  pub most : span ≤ 0x10000
