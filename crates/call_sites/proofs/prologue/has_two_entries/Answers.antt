-- loop-j-preserved: a symbol doesn't stand there. returns-then-stands_at: one does.
use Rattle.std.proofs.Common.{sym, ap, ◌∙◌, arith}
use Rattle.elf64_records.specs.Symbols.{symbol_count}
use Rattle.object_set.specs.Files.{file_at}
use Rattle.symbol_table.specs.Prologue.{stands_at}
use Rattle.call_sites.proofs.SymbolsPassed.{none_more, one_passes}
use Rattle.call_sites.proofs.prologue.has_two_entries.Goals as goal

pub loop-j-preserved : goal.loop-j-preserved
loop-j-preserved c =
    none_more (stands_at (file_at c.args.set.now c.args.file) c.args.section c.args.at) c.loop-j.j c.loop-j.invariant
    (sym c.if-stands_at.ensures)

pub returns-then-stands_at : goal.returns-then-stands_at
returns-then-stands_at c =
    let b = file_at c.args.set.now c.args.file in
    let count = c.symbol_count-j-end.ensures ∙ ap symbol_count c.view.ensures in
    sym (one_passes (stands_at b c.args.section c.args.at) c.loop-j.j (symbol_count b) (omega (arith, count, c.loop-j-test.true))
    (sym c.if-stands_at.ensures))
