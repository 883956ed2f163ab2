-- Numbers are told where all are numbers.
use Rattle.std.proofs.Common.{ℕ, ◌≡◌, ◌∙◌, List, Option, Some, None, cond, sym, ap, subst, arith}
use Rattle.std.specs.Result.{IfOk}
use Rattle.power_machine.specs.declared.memory.Purpose.TheVariants.{Loading}
use Rattle.power_machine.specs.Memory.{byte_at, bytes_from}
use Rattle.plain_machine.specs.inside.Others.{other_at}
use Rattle.plain_machine.proofs.Cells.{allowed_low, loading_allowed, cells_numbers, range_numbers}
use Rattle.plain_machine.proofs.memory.PlainMemory.numbers_at.Goals as goal

pub are_numbers-requires : goal.are_numbers-requires
are_numbers-requires c =
    let m = c.args.self.now in
    let some = c.if-count-eq0.false in
    let fits = c.requires.fits in
    let low = allowed_low Loading c.args.at c.args.room m.numbers.regions.items m.numbers.in_order
    (loading_allowed _ m.kept c.args.at c.args.room (omega (arith, some, fits)) c.requires.allowed) in
    record { low = omega (arith, low, fits) }

pub returns-then-not-are_numbers : goal.returns-then-not-are_numbers
returns-then-not-are_numbers c =
    let m = c.args.self.now in
    sym (cells_numbers (other_at m.others) (byte_at m.numbers.regions.items) c.args.at c.args.count
    ∙ ap (λ b. cond b (Some (bytes_from (byte_at m.numbers.regions.items) c.args.at c.args.count)) None)
    (sym c.are_numbers.ensures ∙ c.if-not-are_numbers.true))

pub returns : goal.returns
returns c =
    let m = c.args.self.now in
    let some = c.if-count-eq0.false in
    let fits = c.requires.fits in
    subst (λ (o : Option (List ℕ)). IfOk c.copy_at.result (λ bytes. bytes ≡ o))
    (range_numbers (other_at m.others) m.numbers.regions.items c.args.at c.args.room c.args.count
    (loading_allowed _ m.kept c.args.at c.args.room (omega (arith, some, fits)) c.requires.allowed)
    (sym c.are_numbers.ensures ∙ c.if-not-are_numbers.false))
    c.copy_at.ensures
