use Rattle.std.proofs.Common.{◌≡◌, ◌-◌}
use Rattle.elf64_records.specs.First.{first_from}
use Rattle.elf64_records.specs.Records.{record_count}
use Rattle.object_set.specs.Files.{file_at}
use Rattle.symbol_table.specs.inside.Records.{entry_refusal_at, table_refusal}
use Rattle.symbol_table.proofs.records.FileRecords.check_table.Given as goal

-- what is left refuses as all does
abbrev pub invariant-loop-entry : goal.invariant-loop-entry
invariant-loop-entry l =
    let count = record_count (file_at l.self.files l.self.file) l.table in
    first_from (entry_refusal_at l.self.files l.self.file l.table) l.entry (count - l.entry)
    ≡ table_refusal l.self.files l.self.file l.table
