use Rattle.std.proofs.Common.{◌≡◌}
use Rattle.power_machine.specs.Pages.{PagesReach, kept_pages}
use Rattle.power_machine.specs.Runs.{Reaches, Going}
use Rattle.power_machine.specs.Steps.{IsStep, run_of, machine_ranges}
use Rattle.power_machine.proofs.machine.Machine.run.Given as goal

abbrev pub invariant-loop : goal.invariant-loop
invariant-loop l = record {
  so_far : Reaches (IsStep (machine_ranges l.fn.self)) l.counter (run_of l.fn.self l.fn.world) (Going (run_of l.self l.world));
  ranges : machine_ranges l.self ≡ machine_ranges l.fn.self;
  pages : PagesReach (machine_ranges l.fn.self) l.counter (run_of l.fn.self l.fn.world) (kept_pages l.fn.self) (kept_pages l.self);
}
