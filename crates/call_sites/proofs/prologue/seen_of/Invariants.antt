use Rattle.std.proofs.Common.{◌≡◌, map}
use Rattle.object_set.specs.Files.{file_at}
use Rattle.object_set.specs.Walks.{items_in, record_walk}
use Rattle.symbol_table.specs.Fields.{field_of}
use Rattle.call_sites.specs.inside.Halves.{seen_of}
use Rattle.call_sites.proofs.prologue.seen_of.Given as goal

-- the records of the first sections are seen
abbrev pub invariant-loop-table : goal.invariant-loop-table
invariant-loop-table l =
    let b = file_at l.set l.file in
    l.seen ≡ seen_of b l.halves (map (field_of b) (items_in record_walk l.file b l.table))
