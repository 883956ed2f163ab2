use Rattle.std.proofs.Common.{◌≡◌, ◌-◌, length}
use Rattle.elf64_records.specs.First.{first_from}
use Rattle.symbol_table.specs.Records.{records_refusal}
use Rattle.symbol_table.specs.inside.Records.{file_records_refusal}
use Rattle.symbol_table.proofs.records.check_records.Given as goal

-- what is left refuses as all does
abbrev pub invariant-loop-file : goal.invariant-loop-file
invariant-loop-file l =
    let files = l.resolved.files in
    first_from (file_records_refusal files) l.file (length files - l.file) ≡ records_refusal files
