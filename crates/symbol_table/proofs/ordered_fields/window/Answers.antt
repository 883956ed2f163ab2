use Rattle.std.proofs.Common.{ℕ, ◌+◌, ap, length, take, drop, ◌-◌}
use Rattle.symbol_table.proofs.FieldWindows.{window_holds, rest_is}
use Rattle.symbol_table.proofs.ordered_fields.window.Goals as goal

-- no field before the window or behind it has bytes of the range
pub returns : goal.returns
returns c =
    let fields = c.args.fields.now in
    let first = c.count_before.result in
    let rest = take (length fields - first) (drop first fields) in
    window_holds c.args.section c.args.from c.args.count c.saturating_sub.result (c.args.from + c.from.result) fields rest first
    c.walk_before.result c.requires.narrow c.count_before.ensures.before c.saturating_sub.ensures
    (rest_is fields first) c.walk_before.ensures.after
    (ap (λ (n : ℕ). c.args.from + n) c.from.ensures)
