-- returns-in_ok-number: the symbol has its number now. returns-else-is_none: it had one.
use Rattle.std.proofs.Common.{None, arith}
use Rattle.object_set.specs.laws.Rows.{index_read}
use Rattle.toc_groups.proofs.Numbering.{adds_new, adds_old}
use Rattle.toc_groups.proofs.slots.GroupSlots.add_symbol.Goals as goal

pub returns-in_ok-number : goal.returns-in_ok-number
returns-in_ok-number c =
    adds_new c.args.self.now c.number.new.self c.args.file c.args.symbol c.in_ok-number.number c.args.row.now.items c.requires.row
    (omega (arith, c.requires.symbol.within, c.requires.row.count)) c.in_ok-number.ensures.slots c.in_ok-number.ensures.number

pub returns-else-is_none : goal.returns-else-is_none
returns-else-is_none c =
    let row = c.args.row.now.items in
    adds_old c.args.self.now c.args.file c.args.symbol row c.index.result.now c.is_none.result c.requires.row
    (index_read row c.args.symbol c.index.result.now None (omega (arith, c.requires.symbol.within, c.requires.row.count)) c.index.ensures)
    c.is_none.ensures c.if-is_none.false
