-- TOC groups while files join them.
use Rattle.std.specs.Prelude.{ℕ, suc, ◌≡◌, ◌<◌, ◌+◌, List, [], length, map, Option, Some, MatchOption, slice_get}
use Rattle.std.specs.List.{range_with_len}
use Rattle.toc_groups.specs.declared.groups.TocGroup.{TocGroup}
use Rattle.toc_groups.specs.declared.groups.OpenGroup.{OpenGroup}
use Rattle.toc_groups.specs.declared.groups.Joined.{Joined}
use Rattle.toc_groups.specs.declared.groups.TocGroups.{TocGroups}
use Rattle.toc_groups.specs.declared.groups.AllJoined.{AllJoined}
use Rattle.toc_groups.specs.Slots.{slots_of, named_symbols}
use Rattle.toc_groups.specs.Groups.{Group, tocs_of, group_size, group_after, group_with, group_number, group_among, group_count}
use Rattle.toc_groups.specs.inside.Numbered.{slot_list, IsRow, Notes}
use Rattle.toc_groups.specs.inside.Ends.{AreEnds}

-- a group has the files from its first one up to an end
pub record IsOpen (files : List (List ℕ)) (end : ℕ) (open_group : OpenGroup) : Type 0 where
  pub count : ℕ
  pub end_is : open_group.first + count ≡ end
  pub slots : open_group.slots ≡ slot_list files (slots_of files open_group.first count)
  pub ends : AreEnds (tocs_of files open_group.first count) open_group.ends
  pub size : open_group.size ≡ group_size files open_group.first count

-- this is a group
pub record IsGroup (files : List (List ℕ)) (group : Group) (whole : TocGroup) : Type 0 where
  pub first : whole.first ≡ group.first
  pub slots : whole.slots.items ≡ slots_of files group.first group.count
  pub size : whole.size ≡ group_size files group.first group.count

-- a row has the numbers of the slots of the symbols that loads of a file name
pub record IsNumbered (files : List (List ℕ)) (group : Group) (file : ℕ) (row : List (Option ℕ)) : Type 0 where
  pub is_row : IsRow (slot_list files (slots_of files group.first group.count)) file row
  pub named : Notes (named_symbols files file) [] row

module _ (files : List (List ℕ)) (span : ℕ) where
  -- a file joins the last group, or that one is full and the file begins the next
  abbrev pub IsFull : ℕ → Option TocGroup → Type 0
  IsFull file full =
      let last = group_after files span file in
      MatchOption full (group_number files span file ≡ last.number)
      (λ whole. (0 < last.count) × (group_number files span file ≡ suc last.number) × IsGroup files last whole)

  -- a file has joined
  pub record IsJoined (file : ℕ) (joined : Joined) : Type 0 where
    pub open_group : IsOpen files (file + 1) joined.open_group
    pub first : joined.open_group.first ≡ (group_with files span file).first
    pub row : IsNumbered files (group_with files span file) file joined.row
    pub full : IsFull file joined.full

  -- the groups that are full when the first n files have joined, the number of each of these files' groups, and their slots
  pub record AreJoined (n : ℕ) (groups : List TocGroup) (numbers : List ℕ) (rows : List (List (Option ℕ))) : Type 0 where
    pub count : length groups ≡ (group_after files span n).number
    pub each : (g : ℕ) (whole : TocGroup) → slice_get groups g ≡ Some whole → IsGroup files (group_among files span g n) whole
    pub numbers_are : numbers ≡ map (group_number files span) (range_with_len 0 n)
    pub row_count : length rows ≡ n
    pub numbered : (file : ℕ) (row : List (Option ℕ)) → slice_get rows file ≡ Some row →
        IsNumbered files (group_with files span file) file row

  -- all files have joined
  pub record HaveJoined (all : AllJoined) : Type 0 where
    pub span_is : all.laid.span ≡ span
    pub open_group : IsOpen files (length files) all.last
    pub files_are : all.last.slots.files ≡ files
    pub first : all.last.first ≡ (group_after files span (length files)).first
    pub joined : AreJoined (length files) all.laid.groups.items all.laid.numbers.items all.laid.rows.items

  -- the groups of all files
  pub record AreGroups (laid : TocGroups) : Type 0 where
    pub span_is : laid.span ≡ span
    pub count : length laid.groups.items ≡ group_count files span
    pub each : (g : ℕ) (whole : TocGroup) → slice_get laid.groups.items g ≡ Some whole →
        IsGroup files (group_among files span g (length files)) whole
    pub numbers_are : laid.numbers.items ≡ map (group_number files span) (range_with_len 0 (length files))
    pub row_count : length laid.rows.items ≡ length files
    pub numbered : (file : ℕ) (row : List (Option ℕ)) → slice_get laid.rows.items file ≡ Some row →
        IsNumbered files (group_with files span file) file row
