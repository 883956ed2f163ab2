use Rattle.std.proofs.Common.{◌≡◌, ◌≤◌, ◌-◌, sym, ap, ◌∙◌, arith}
use Rattle.elf64_records.specs.First.{first_from}
use Rattle.elf64_records.specs.laws.First.{walk_end}
use Rattle.elf64_records.specs.FileHeader.{e_shnum}
use Rattle.object_set.specs.Files.{file_at}
use Rattle.symbol_table.specs.inside.Records.{table_refusal}
use Rattle.symbol_table.proofs.records.check_file.Goals as goal

-- all is left
pub loop-table-init : goal.loop-table-init
loop-table-init c =
    let files = c.args.resolved.now.files in
    let b = file_at files c.args.file in
    let all : e_shnum b - 0 ≡ e_shnum b = omega arith in
    ap (first_from (table_refusal files c.args.file) 0) all

-- nothing is left
pub returns : goal.returns
returns c =
    let files = c.args.resolved.now.files in
    let b = file_at files c.args.file in
    let count = c.section_count-table-end.ensures.count ∙ ap e_shnum c.view.ensures
    ∙ ap (λ s. e_shnum (file_at s c.args.file)) c.set.ensures in
    let past : e_shnum b ≤ c.loop-table.table = omega (arith, count, c.loop-table-test.false) in
    sym c.loop-table.invariant ∙ walk_end (table_refusal files c.args.file) c.loop-table.table (e_shnum b) past
