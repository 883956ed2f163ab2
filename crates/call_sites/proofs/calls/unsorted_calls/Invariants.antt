use Rattle.std.proofs.Common.{◌≡◌, map, filter}
use Rattle.object_set.specs.Files.{file_at}
use Rattle.object_set.specs.Walks.{items_in, record_walk}
use Rattle.symbol_table.specs.Fields.{field_of}
use Rattle.call_sites.specs.Sites.{is_call}
use Rattle.call_sites.proofs.calls.unsorted_calls.Given as goal

-- the calls among the records of the first sections are here
abbrev pub invariant-loop-table : goal.invariant-loop-table
invariant-loop-table l =
    let b = file_at l.set l.file in
    l.items.items ≡ filter (is_call b) (map (field_of b) (items_in record_walk l.file b l.table))
