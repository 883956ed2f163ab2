use Rattle.std.proofs.Common.{◌≡◌, ◌++◌, map}
use Rattle.object_set.specs.Files.{file_at}
use Rattle.object_set.specs.Walks.{records_in}
use Rattle.symbol_table.specs.Fields.{field_of}
use Rattle.symbol_table.proofs.fields.push_table.Given as goal

-- the first records' fields stand behind the others
abbrev pub invariant-loop-entry : goal.invariant-loop-entry
invariant-loop-entry l =
    let b = file_at l.set l.file in
    l.items.items ≡ l.fn.items.items ++ map (field_of b) (records_in l.file b l.table l.entry)
