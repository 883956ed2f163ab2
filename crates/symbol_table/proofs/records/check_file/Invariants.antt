use Rattle.std.proofs.Common.{◌≡◌, ◌-◌}
use Rattle.elf64_records.specs.First.{first_from}
use Rattle.elf64_records.specs.FileHeader.{e_shnum}
use Rattle.object_set.specs.Files.{file_at}
use Rattle.symbol_table.specs.inside.Records.{table_refusal, file_records_refusal}
use Rattle.symbol_table.proofs.records.check_file.Given as goal

-- what is left refuses as all does
abbrev pub invariant-loop-table : goal.invariant-loop-table
invariant-loop-table l =
    let files = l.resolved.files in
    first_from (table_refusal files l.file) l.table (e_shnum (file_at files l.file) - l.table) ≡ file_records_refusal files l.file
