-- A call's range lies low, and the numbers that are put stand where nothing else is told.
use Rattle.std.proofs.Common.{ℕ, ◌∙◌, sym, ap, arith}
use Rattle.power_machine.specs.declared.memory.Purpose.TheVariants.{Storing}
use Rattle.power_machine.specs.Memory.{byte_at}
use Rattle.plain_machine.specs.Actions.{guarded}
use Rattle.plain_machine.specs.inside.Others.{other_at}
use Rattle.plain_machine.proofs.Cells.{allowed_low, storing_allowed, numbers_stand, some_length}
use Rattle.plain_machine.proofs.memory.PlainMemory.fill.Goals as goal

pub clear-requires : goal.clear-requires
clear-requires c =
    let m = c.args.self.now in
    let fits = c.requires.fits in
    let some = some_length _ (sym c.is_empty.ensures ∙ c.if-is_empty.false) in
    let low = allowed_low Storing c.args.at c.args.room m.numbers.regions.items m.numbers.in_order
    (storing_allowed _ m.kept c.args.at c.args.room (omega (arith, some, fits)) c.requires.allowed) in
    record { low = omega (arith, low, fits) }

pub returns-clause-filled : goal.returns-clause-filled
returns-clause-filled c =
    let m = c.args.self.now in
    record {
      cells_are = λ i a. numbers_stand (other_at m.others) (other_at c.clear.new.self) (byte_at m.numbers.regions.items)
          (byte_at c.fill.new.self.regions.items) c.args.at a c.args.bytes.now
          (c.clear.ensures.inside a) (c.clear.ensures.outside a) (ap (λ (f : ℕ → ℕ). f a) c.in_ok-fill.ensures.filled.bytes_are) i;
      same_may = ap (λ ranges. guarded ranges m.kept) c.fill.ensures.ranges;
    }
