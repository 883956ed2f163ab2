use Rattle.object_set.specs.Files.{file_at}
use Rattle.object_set.specs.Walks.{items_in, record_walk}
use Rattle.toc_rewrite.specs.inside.Laid.{IsFileOf}
use Rattle.toc_rewrite.specs.inside.Slots.{HasFound}
use Rattle.toc_rewrite.proofs.laid.Laid.push_file.Given as goal

-- what the records of the first sections are stands behind the others
abbrev pub invariant-loop-table : goal.invariant-loop-table
invariant-loop-table l = record {
  found : HasFound l.self (items_in record_walk l.file (file_at l.self.files l.file) l.table) l.fn.found l.found;
  file : IsFileOf l.prologues l.self.files l.file;
}
