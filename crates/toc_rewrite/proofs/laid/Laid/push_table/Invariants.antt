use Rattle.std.proofs.Common.{◌≡◌}
use Rattle.object_set.specs.Files.{file_at}
use Rattle.object_set.specs.Walks.{records_in}
use Rattle.toc_rewrite.specs.inside.Slots.{HasFound}
use Rattle.toc_rewrite.proofs.laid.Laid.push_table.Given as goal

-- what the first records are stands behind the others
abbrev pub invariant-loop-entry : goal.invariant-loop-entry
invariant-loop-entry l = record {
  found : HasFound l.self (records_in l.file (file_at l.self.files l.file) l.table l.entry) l.fn.found l.found;
  same : l.prologues ≡ l.fn.prologues;
}
