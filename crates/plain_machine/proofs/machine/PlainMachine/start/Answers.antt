-- At the start all bytes of memory are numbers: those of the segments.
use Rattle.std.proofs.Common.{ℕ, List, ◌∙◌, refl, ap}
use Rattle.power_machine.specs.Memory.{Range, byte_at}
use Rattle.power_machine.specs.Start.{start_ranges}
use Rattle.plain_machine.specs.declared.kept.AddressRange.{AddressRange}
use Rattle.plain_machine.specs.declared.value.Cell.{Cell}
use Rattle.plain_machine.specs.declared.value.Cell.TheVariants as cell
use Rattle.plain_machine.specs.Actions.{guarded}
use Rattle.plain_machine.specs.Start.{start_state}
use Rattle.plain_machine.specs.inside.Memory.{told}
use Rattle.plain_machine.proofs.Performing.{with_bytes}
use Rattle.plain_machine.proofs.machine.PlainMachine.start.Goals as goal

pub returns : goal.returns
returns c =
    let segments = c.args.segments.items in
    let numbers = c.in_ok-numbers.ensures in
    record {
      state = ap (with_bytes (start_state c.args.program.entry segments))
          (λ i a. (ap (λ (d : Cell). told d (byte_at c.in_ok-numbers.numbers.regions.items a)) (c.none.ensures a)
          ∙ ap (λ (f : ℕ → ℕ). cell.Number (f a)) numbers.bytes) i);
      may = ap (λ (ranges : List Range). guarded ranges c.in_ok-kept.kept) numbers.ranges
          ∙ ap (λ (kept : List AddressRange). guarded (start_ranges segments) kept) c.in_ok-kept.ensures;
      sizes = refl;
      events = c.new.ensures.items;
      ended = refl;
    }
