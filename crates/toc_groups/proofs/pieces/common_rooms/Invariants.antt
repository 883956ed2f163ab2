use Rattle.std.proofs.Common.{◌≡◌, map, take}
use Rattle.symbol_table.specs.Candidates.{all_commons}
use Rattle.toc_groups.specs.Sections.{common_extent}
use Rattle.toc_groups.proofs.pieces.common_rooms.Given as goal

-- the room of the first commons
abbrev pub invariant-loop-c : goal.invariant-loop-c
invariant-loop-c l = l.rooms.items ≡ map common_extent (take l.c (all_commons l.res.files))
