-- What may be stored to lies low.
use Rattle.std.proofs.Common.{◌∙◌, sym, arith}
use Rattle.power_machine.specs.declared.memory.Purpose.TheVariants.{Storing}
use Rattle.plain_machine.proofs.Cells.{allowed_low, both_true}
use Rattle.plain_machine.proofs.memory.PlainMemory.put.Goals as goal

pub hold-requires-clause-low : goal.hold-requires-clause-low
hold-requires-clause-low c =
    let m = c.args.self.now in
    let allowed = both_true _ _ (sym c.may_store.ensures ∙ c.if-not-may_store.false) in
    let low = allowed_low Storing c.args.at _ m.numbers.regions.items m.numbers.in_order allowed.0 in
    omega (arith, low)

pub returns-in-Ok : goal.returns-in-Ok
returns-in-Ok c = record {
  allowed = sym c.may_store.ensures ∙ c.if-not-may_store.false;
  cells_are = c.in-Ok.ensures.held.cells_are;
  same_may = c.in-Ok.ensures.held.same_may;
}
