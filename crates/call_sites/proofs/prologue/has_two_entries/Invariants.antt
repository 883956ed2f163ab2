use Rattle.std.proofs.Common.{◌≡◌, false}
use Rattle.std.specs.List.{list_any, range_with_len}
use Rattle.object_set.specs.Files.{file_at}
use Rattle.symbol_table.specs.Prologue.{stands_at}
use Rattle.call_sites.proofs.prologue.has_two_entries.Given as goal

-- none of the first symbols stands there
abbrev pub invariant-loop-j : goal.invariant-loop-j
invariant-loop-j l = list_any (stands_at (file_at l.set l.file) l.section l.at) (range_with_len 0 l.j) ≡ false
