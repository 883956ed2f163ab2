use Rattle.std.proofs.Common.{◌≡◌, false}
use Rattle.std.specs.List.{list_any}
use Rattle.object_set.specs.Files.{file_at}
use Rattle.object_set.specs.Walks.{items_in, record_walk}
use Rattle.toc_rewrite.specs.inside.Tables.{is_unsuited_record}
use Rattle.toc_rewrite.proofs.laid.Laid.is_orderly.Given as goal

-- the records of the first sections suit
abbrev pub invariant-loop-table : goal.invariant-loop-table
invariant-loop-table l =
    list_any (is_unsuited_record l.self.files) (items_in record_walk l.file (file_at l.self.files l.file) l.table) ≡ false
