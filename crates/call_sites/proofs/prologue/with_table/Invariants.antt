use Rattle.std.proofs.Common.{map}
use Rattle.object_set.specs.Files.{file_at}
use Rattle.object_set.specs.Walks.{records_in}
use Rattle.symbol_table.specs.Fields.{field_of}
use Rattle.call_sites.specs.inside.Halves.{SeesMore}
use Rattle.call_sites.proofs.prologue.with_table.Given as goal

-- the first records are seen
abbrev pub invariant-loop-entry : goal.invariant-loop-entry
invariant-loop-entry l =
    let b = file_at l.set l.file in
    SeesMore b l.halves l.fn.seen l.all (map (field_of b) (records_in l.file b l.table l.entry))
