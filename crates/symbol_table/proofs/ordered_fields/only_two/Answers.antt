use Rattle.std.proofs.Common.{sym, arith}
use Rattle.symbol_table.specs.Fields.{meets}
use Rattle.symbol_table.proofs.FieldWindows.{third_held}
use Rattle.symbol_table.proofs.ordered_fields.only_two.Goals as goal

-- there are more than two
pub returns-then-is_some : goal.returns-then-is_some
returns-then-is_some c =
    third_held (meets c.args.section c.args.from c.args.count) c.args.fields.now c.loop-field.field-index c.loop-field.second
    c.loop-field.first _ c.loop-field.invariant (sym c.if-is_some.ensures) (omega arith) (sym c.if-meets.ensures)
