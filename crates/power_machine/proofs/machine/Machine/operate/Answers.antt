-- An operation that is no call stores by the state.
use Rattle.std.proofs.Common.{◌∙◌, ap, sym}
use Rattle.power_machine.specs.Paging.{kept_with}
use Rattle.power_machine.specs.Pages.{kept_pages}
use Rattle.power_machine.specs.Steps.{run_of}
use Rattle.power_machine.proofs.Keeping.{stored_alike}
use Rattle.power_machine.proofs.machine.Machine.operate.Goals as goal

pub returns-in-Went-clause-pages : goal.returns-in-Went-clause-pages
returns-in-Went-clause-pages c =
    c.in-Went.ensures.pages
    ∙ ap (kept_with (kept_pages c.args.self.now))
    (sym (stored_alike (run_of c.args.self.now c.args.world.now) c.args.operation.now (sym c.is_system.ensures ∙ c.if-is_system.false)))
