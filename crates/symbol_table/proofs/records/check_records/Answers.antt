use Rattle.std.proofs.Common.{◌≡◌, ◌-◌, length, sym, ap, ◌∙◌, arith}
use Rattle.elf64_records.specs.First.{first_from}
use Rattle.symbol_table.specs.inside.Records.{file_records_refusal}
use Rattle.symbol_table.specs.laws.RecordWalk.{records_first}
use Rattle.symbol_table.proofs.records.check_records.Goals as goal

-- the walk past all records goes from file to file
pub loop-file-init : goal.loop-file-init
loop-file-init c =
    let files = c.args.resolved.now.files in
    let all : length files - 0 ≡ length files = omega arith in
    ap (first_from (file_records_refusal files) 0) all ∙ sym (records_first files)
