-- loop-table-preserved: one section more. returns: all sections.
use Rattle.std.proofs.Common.{◌≡◌, ℕ, map, ap, ◌∙◌, arith}
use Rattle.elf64_records.specs.FileHeader.{e_shnum}
use Rattle.object_set.specs.Files.{file_at}
use Rattle.object_set.specs.Walks.{items_in, record_walk}
use Rattle.symbol_table.specs.Fields.{field_of}
use Rattle.call_sites.specs.inside.Halves.{seen_of}
use Rattle.call_sites.proofs.SeenHalves.{sees_table}
use Rattle.call_sites.proofs.prologue.seen_of.Goals as goal

pub loop-table-preserved : goal.loop-table-preserved
loop-table-preserved c =
    sees_table (file_at c.args.set.now c.args.file) c.args.halves c.args.file c.loop-table.table c.loop-table.seen c.with_table-seen.result
    c.loop-table.invariant c.with_table-seen.ensures

pub returns : goal.returns
returns c =
    let b = file_at c.args.set.now c.args.file in
    let count = c.section_count-table-end.ensures.count ∙ ap e_shnum c.view.ensures in
    let all : c.loop-table.table ≡ e_shnum b = omega (arith, count) in
    c.loop-table.invariant ∙ ap (λ (n : ℕ). seen_of b c.args.halves (map (field_of b) (items_in record_walk c.args.file b n))) all
