-- returns: a section that holds a record that doesn't suit is one of the file's. loop-table-preserved: one section more.
use Rattle.std.proofs.Common.{◌≡◌, true, not, List, ℕ, sym, ap, ◌∙◌, arith}
use Rattle.std.specs.List.{list_any}
use Rattle.elf64_records.specs.FileHeader.{e_shnum}
use Rattle.elf64_records.specs.Records.{record_count}
use Rattle.object_set.specs.Files.{file_at}
use Rattle.object_set.specs.Walks.{records_in}
use Rattle.toc_rewrite.specs.inside.Tables.{is_unsuited_record}
use Rattle.toc_rewrite.specs.laws.Entries.{table_passes, table_more, not_true, not_false}
use Rattle.toc_rewrite.proofs.laid.Laid.is_orderly.Goals as goal

pub returns-then-not-is_orderly_table : goal.returns-then-not-is_orderly_table
returns-then-not-is_orderly_table c =
    let files = c.args.self.now.files in
    let file = c.args.file in
    let b = file_at files file in
    let table = c.loop-table.table in
    let count : c.section_count-table-end.result ≡ e_shnum b =
    c.section_count-table-end.ensures.count
    ∙ ap e_shnum (c.view.ensures ∙ ap (λ (s : List (List ℕ)). file_at s file) (c.set.ensures ∙ c.resolved.ensures.files)) in
    let test = is_unsuited_record files in
    let some : list_any test (records_in file b table (record_count b table)) ≡ true =
    not_false (list_any test (records_in file b table (record_count b table)))
    (sym c.is_orderly_table.ensures ∙ c.if-not-is_orderly_table.true) in
    sym (ap not (table_passes test file b table (e_shnum b) (omega (arith, count, c.loop-table-test.true)) some))

pub loop-table-preserved : goal.loop-table-preserved
loop-table-preserved c =
    let files = c.args.self.now.files in
    let file = c.args.file in
    let b = file_at files file in
    let table = c.loop-table.table in
    let test = is_unsuited_record files in
    table_more test file b table c.loop-table.invariant
    (not_true (list_any test (records_in file b table (record_count b table)))
    (sym c.is_orderly_table.ensures ∙ c.if-not-is_orderly_table.false))
