-- loop-table-init: no symbol is numbered. loop-table-preserved: one section more. returns: all sections.
use Rattle.std.proofs.Common.{◌≡◌, ℕ, [], ap, sym, subst, ◌∙◌, add-one, arith, rules}
use Rattle.elf64_records.specs.FileHeader.{e_shnum}
use Rattle.elf64_records.specs.Records.{record_count}
use Rattle.elf64_records.specs.Symbols.{symbol_count}
use Rattle.object_set.specs.Files.{file_at}
use Rattle.object_set.specs.Walks.{items_in}
use Rattle.toc_groups.specs.Slots.{named_by, named_walk}
use Rattle.toc_groups.specs.inside.Numbered.{SlotList, Adds}
use Rattle.toc_groups.proofs.Numbering.{adds_empty, adds_next}
use Rattle.toc_groups.proofs.slots.GroupSlots.add_file.Goals as goal

pub loop-table-init : goal.loop-table-init
loop-table-init c =
    let count : c.symbol_count-count.result ≡ symbol_count (file_at c.args.self.now.files c.args.file) =
    c.symbol_count-count.ensures ∙ ap symbol_count c.view.ensures
    ∙ ap (λ (l : SlotList). symbol_count (file_at l.files c.args.file)) c.self.view_is in
    adds_empty c.args.self.now c.args.file c.symbol_count-count.result c.in_ok-items.items.items
    (c.in_ok-items.ensures.items_if_clones_equal (λ y h. search rules))
    (omega (arith, c.in_ok-items.ensures.len, c.in_ok-items.items.ok.0)) count c.requires.new

pub loop-table-preserved : goal.loop-table-preserved
loop-table-preserved c =
    let l = c.args.self.now in
    let b = file_at l.files c.args.file in
    let i = c.loop-table.table in
    subst (λ (n : ℕ). Adds (items_in named_walk c.args.file b n) c.args.file l c.add_table.new.self [] c.add_table.new.row.items)
    (sym (add-one i))
    (adds_next (λ x. named_by c.args.file x i (record_count x i)) (items_in named_walk c.args.file b i) c.args.file l c.loop-table.self
    c.add_table.new.self [] c.loop-table.items.items c.add_table.new.row.items c.loop-table.invariant c.in_ok-add_table.ensures)

pub returns : goal.returns
returns c =
    let l = c.args.self.now in
    let b = file_at l.files c.args.file in
    let count : c.section_count-table-end.result ≡ e_shnum b =
    c.section_count-table-end.ensures.count ∙ ap e_shnum c.view-2.ensures
    ∙ ap (λ (m : SlotList). e_shnum (file_at m.files c.args.file)) c.self.view_is in
    let all : c.loop-table.table ≡ e_shnum b =
    omega (arith, count, c.loop-table-test.false, c.loop-table.auto.table-end) in
    subst (λ (n : ℕ). Adds (items_in named_walk c.args.file b n) c.args.file l c.loop-table.self [] c.loop-table.items.items) all
    c.loop-table.invariant
