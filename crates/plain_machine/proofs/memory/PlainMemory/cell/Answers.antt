-- A byte that is a number.
use Rattle.std.proofs.Common.{ℕ, ◌∙◌, sym, ap}
use Rattle.power_machine.specs.Memory.{byte_at}
use Rattle.plain_machine.specs.declared.value.Cell.{Cell}
use Rattle.plain_machine.specs.declared.value.Cell.TheVariants as cell
use Rattle.plain_machine.specs.inside.Memory.{told}
use Rattle.plain_machine.proofs.Cells.{read_when, byte_spelled}
use Rattle.plain_machine.proofs.memory.PlainMemory.cell.Goals as goal

pub returns-in-Some : goal.returns-in-Some
returns-in-Some c =
    let byte : ℕ = byte_at c.args.self.now.numbers.regions.items c.args.at in
    ap cell.Number (read_when _ _ c.in-Some.n (sym c.number_at.ensures.value ∙ c.in-Some.is) ∙ byte_spelled byte)
    ∙ sym (ap (λ (d : Cell). told d byte) (sym c.at.ensures ∙ c.in-Number.is))
