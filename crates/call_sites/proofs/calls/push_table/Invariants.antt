use Rattle.std.proofs.Common.{◌≡◌, ◌++◌, map, filter}
use Rattle.object_set.specs.Files.{file_at}
use Rattle.object_set.specs.Walks.{records_in}
use Rattle.symbol_table.specs.Fields.{field_of}
use Rattle.call_sites.specs.Sites.{is_call}
use Rattle.call_sites.proofs.calls.push_table.Given as goal

-- the calls among the first records stand behind the others
abbrev pub invariant-loop-entry : goal.invariant-loop-entry
invariant-loop-entry l =
    let b = file_at l.set l.file in
    l.items.items ≡ l.fn.items.items ++ filter (is_call b) (map (field_of b) (records_in l.file b l.table l.entry))
