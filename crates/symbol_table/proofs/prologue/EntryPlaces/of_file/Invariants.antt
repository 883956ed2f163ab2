use Rattle.std.proofs.Common.{◌≡◌, ℕ}
use Rattle.std.specs.List.{list_any, range_with_len}
use Rattle.object_set.specs.Files.{file_at}
use Rattle.symbol_table.specs.Prologue.{stands_at}
use Rattle.symbol_table.specs.inside.Places.{is_place}
use Rattle.symbol_table.proofs.prologue.EntryPlaces.of_file.Given as goal

-- the places of the first symbols are here
abbrev pub invariant-loop-j : goal.invariant-loop-j
invariant-loop-j l = (section at : ℕ) →
    list_any (is_place section at) l.items.items ≡ list_any (stands_at (file_at l.set l.file) section at) (range_with_len 0 l.j)
