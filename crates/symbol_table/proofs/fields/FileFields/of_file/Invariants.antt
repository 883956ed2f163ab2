use Rattle.std.proofs.Common.{◌≡◌, map}
use Rattle.object_set.specs.Files.{file_at}
use Rattle.object_set.specs.Walks.{items_in, record_walk}
use Rattle.symbol_table.specs.Fields.{field_of}
use Rattle.symbol_table.proofs.fields.FileFields.of_file.Given as goal

-- the fields of the first sections' records are here
abbrev pub invariant-loop-table : goal.invariant-loop-table
invariant-loop-table l =
    let b = file_at l.set l.file in
    l.items.items ≡ map (field_of b) (items_in record_walk l.file b l.table)
