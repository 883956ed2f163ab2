-- What may be stored to lies low, and the numbers that are put stand where nothing else is told.
use Rattle.std.proofs.Common.{ℕ, ◌∙◌, sym, ap, subst, map, length, arith}
use Rattle.power_machine.specs.declared.memory.Purpose.TheVariants.{Storing}
use Rattle.power_machine.specs.Memory.{byte_at}
use Rattle.power_machine.specs.inside.Regions.{Writes}
use Rattle.plain_machine.specs.Actions.{guarded}
use Rattle.plain_machine.specs.declared.memory.PlainMemory.{PlainMemory}
use Rattle.plain_machine.specs.declared.value.Cell.TheVariants as cell
use Rattle.plain_machine.specs.inside.Memory.{Stores, HasStored}
use Rattle.plain_machine.specs.inside.Others.{other_at}
use Rattle.plain_machine.proofs.Cells.{allowed_low, store_granted, numbers_stand, numbers_over}
use Rattle.plain_machine.proofs.memory.PlainMemory.put_numbers.Goals as goal

pub are_numbers-requires : goal.are_numbers-requires
are_numbers-requires c =
    let m = c.args.self.now in
    let w = subst (Writes m.numbers.regions.items c.write-stored.new.self.regions.items c.args.at _ c.args.bytes.now) c.in-Whole.is
    c.write-stored.ensures.writes in
    let low = allowed_low Storing c.args.at _ m.numbers.regions.items m.numbers.in_order w.0 in
    record { low = omega (arith, low) }

pub clear-requires : goal.clear-requires
clear-requires c =
    let m = c.args.self.now in
    let w = subst (Writes m.numbers.regions.items c.write-stored.new.self.regions.items c.args.at _ c.args.bytes.now) c.in-Whole.is
    c.write-stored.ensures.writes in
    let low = allowed_low Storing c.args.at _ m.numbers.regions.items m.numbers.in_order w.0 in
    record { low = omega (arith, low) }

pub returns-then-not-are_numbers : goal.returns-then-not-are_numbers
returns-then-not-are_numbers c =
    let m = c.args.self.now in
    let new : PlainMemory = record { numbers = c.write-stored.new.self; others = c.clear.new.self; kept = m.kept } in
    let w = subst (Writes m.numbers.regions.items c.write-stored.new.self.regions.items c.args.at _ c.args.bytes.now) c.in-Whole.is
    c.write-stored.ensures.writes in
    let stored : HasStored m new c.args.at (length c.args.bytes.now) (map cell.Number c.args.bytes.now) = record {
      allowed = store_granted _ m.kept c.args.at _ w.0 (sym c.meets.ensures ∙ c.if-meets.false);
      cells_are = λ i a. numbers_stand (other_at m.others) (other_at c.clear.new.self) (byte_at m.numbers.regions.items)
          (byte_at c.write-stored.new.self.regions.items) c.args.at a c.args.bytes.now
          (c.clear.ensures.inside a) (c.clear.ensures.outside a) (ap (λ (f : ℕ → ℕ). f a) w.1.bytes_are) i;
      same_may = ap (λ ranges. guarded ranges m.kept) c.write-stored.ensures.ranges;
    } in
    subst (Stores m new c.args.at (length c.args.bytes.now) (map cell.Number c.args.bytes.now)) (sym c.in-Whole.is) stored

pub returns-else-not-are_numbers : goal.returns-else-not-are_numbers
returns-else-not-are_numbers c =
    let m = c.args.self.now in
    let new : PlainMemory = record { numbers = c.write-stored.new.self; others = m.others; kept = m.kept } in
    let w = subst (Writes m.numbers.regions.items c.write-stored.new.self.regions.items c.args.at _ c.args.bytes.now) c.in-Whole.is
    c.write-stored.ensures.writes in
    let stored : HasStored m new c.args.at (length c.args.bytes.now) (map cell.Number c.args.bytes.now) = record {
      allowed = store_granted _ m.kept c.args.at _ w.0 (sym c.meets.ensures ∙ c.if-meets.false);
      cells_are = λ i a. numbers_over (other_at m.others) (byte_at m.numbers.regions.items)
          (byte_at c.write-stored.new.self.regions.items) c.args.at a c.args.bytes.now
          (sym c.are_numbers.ensures ∙ c.if-not-are_numbers.false) (ap (λ (f : ℕ → ℕ). f a) w.1.bytes_are) i;
      same_may = ap (λ ranges. guarded ranges m.kept) c.write-stored.ensures.ranges;
    } in
    subst (Stores m new c.args.at (length c.args.bytes.now) (map cell.Number c.args.bytes.now)) (sym c.in-Whole.is) stored
