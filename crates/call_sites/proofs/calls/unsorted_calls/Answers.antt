-- loop-table-preserved: one section more. returns: all sections.
use Rattle.std.proofs.Common.{◌≡◌, ℕ, map, filter, ap, ◌∙◌, arith}
use Rattle.elf64_records.specs.FileHeader.{e_shnum}
use Rattle.object_set.specs.Files.{file_at}
use Rattle.object_set.specs.Walks.{items_in, record_walk}
use Rattle.symbol_table.specs.Fields.{field_of}
use Rattle.call_sites.specs.Sites.{is_call}
use Rattle.call_sites.specs.laws.RecordCalls.{table_more}
use Rattle.call_sites.proofs.calls.unsorted_calls.Goals as goal

pub loop-table-preserved : goal.loop-table-preserved
loop-table-preserved c =
    table_more c.args.file (file_at c.args.set.now c.args.file) c.loop-table.table c.loop-table.items.items c.push_table.new.items.items
    c.loop-table.invariant c.in_ok-push_table.ensures

pub returns : goal.returns
returns c =
    let b = file_at c.args.set.now c.args.file in
    let count = c.section_count-table-end.ensures.count ∙ ap e_shnum c.view.ensures in
    let all : c.loop-table.table ≡ e_shnum b = omega (arith, count) in
    c.loop-table.invariant
    ∙ ap (λ (n : ℕ). filter (is_call b) (map (field_of b) (items_in record_walk c.args.file b n))) all
