-- The plan of data of files, which is determined by them and by the TOC span.
use Rattle.std.specs.Prelude.{ℕ, List, length, map}
use Rattle.std.specs.List.{range_with_len}
use Rattle.object_set.specs.Walks.{section_walk, index_of, all_items}
use Rattle.toc_groups.specs.Groups.{group_number, group_count}
use Rattle.toc_groups.specs.Data.{base_of, group_slots, group_start, piece_addresses, slot_row, text_start}
use Rattle.toc_groups.specs.Plans.{LaidData, data_ends}

abbrev pub data_plan : List (List ℕ) → ℕ → LaidData
data_plan files span = record {
  span = span;
  groups = map (group_number files span) (range_with_len 0 (length files));
  bases = map (base_of files span) (range_with_len 0 (length files));
  pieces = piece_addresses files span;
  firsts = map (λ file. index_of section_walk files file 0) (range_with_len 0 (length files));
  commons = length (all_items section_walk files);
  starts = map (group_start files span) (range_with_len 0 (group_count files span));
  named = map (group_slots files span) (range_with_len 0 (group_count files span));
  slots = map (slot_row files span) (range_with_len 0 (length files));
  ends = data_ends files span;
  text_start = text_start files span;
}
