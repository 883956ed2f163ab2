-- What may be loaded lies low; numbers are loaded as one, and other bytes as what they spell.
use Rattle.std.proofs.Common.{◌∙◌, sym, ap, arith}
use Rattle.power_machine.specs.declared.memory.Purpose.TheVariants.{Loading}
use Rattle.plain_machine.specs.inside.Others.{other_at, are_numbers}
use Rattle.plain_machine.proofs.Cells.{allowed_low}
use Rattle.plain_machine.proofs.Loaded.{read_some, loaded_number_at, loaded_pieces}
use Rattle.plain_machine.proofs.memory.PlainMemory.load.Goals as goal

pub are_numbers-requires : goal.are_numbers-requires
are_numbers-requires c =
    let m = c.args.self.now in
    let r = read_some _ _ c.in_ok-n.n (sym c.number_at.ensures.value ∙ c.in_ok-n.was) in
    let low = allowed_low Loading c.args.at _ m.numbers.regions.items m.numbers.in_order r.0 in
    let size = c.size_of.ensures in
    record { low = omega (arith, low, size) }

pub returns-then-are_numbers : goal.returns-then-are_numbers
returns-then-are_numbers c =
    let m = c.args.self.now in
    loaded_number_at m c.args.width c.args.sign c.args.at c.in_ok-n.n c.widen.result
    (sym c.number_at.ensures.value ∙ c.in_ok-n.was)
    (ap (are_numbers (other_at m.others) c.args.at) (sym c.size_of.ensures) ∙ sym c.are_numbers.ensures ∙ c.if-are_numbers.true)
    c.widen.ensures

pub returns-else-are_numbers : goal.returns-else-are_numbers
returns-else-are_numbers c =
    let m = c.args.self.now in
    loaded_pieces m c.args.width c.args.sign c.args.at c.in_ok-n.n c.pieces.result
    (sym c.number_at.ensures.value ∙ c.in_ok-n.was)
    (ap (are_numbers (other_at m.others) c.args.at) (sym c.size_of.ensures) ∙ sym c.are_numbers.ensures ∙ c.if-are_numbers.false)
    c.pieces.ensures
