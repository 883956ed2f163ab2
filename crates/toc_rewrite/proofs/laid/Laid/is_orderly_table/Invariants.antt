use Rattle.std.proofs.Common.{◌≡◌, false}
use Rattle.std.specs.List.{list_any}
use Rattle.object_set.specs.Files.{file_at}
use Rattle.object_set.specs.Walks.{records_in}
use Rattle.toc_rewrite.specs.inside.Tables.{is_unsuited_record}
use Rattle.toc_rewrite.proofs.laid.Laid.is_orderly_table.Given as goal

-- the first records suit
abbrev pub invariant-loop-entry : goal.invariant-loop-entry
invariant-loop-entry l =
    list_any (is_unsuited_record l.self.files) (records_in l.file (file_at l.self.files l.file) l.table l.entry) ≡ false
