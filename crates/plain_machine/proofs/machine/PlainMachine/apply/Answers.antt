-- What the core has done the machine has done.
use Rattle.std.proofs.Common.{sym, subst, slice_index}
use Rattle.power_machine.specs.Machines.{Next, exec}
use Rattle.power_machine.specs.Runs.{next_of}
use Rattle.plain_machine.specs.declared.action.Effect.{Effect}
use Rattle.plain_machine.specs.declared.machine.Performed.{Performed}
use Rattle.plain_machine.specs.Actions.{PlainRun, effect_on, spent, restored}
use Rattle.plain_machine.specs.Plain.{PlainState, places}
use Rattle.plain_machine.specs.inside.Core.{core_may, plain_state}
use Rattle.plain_machine.specs.inside.Machine.{run_of, Performs}
use Rattle.plain_machine.proofs.Performing.{performs_by, stays_by, operates_on}
use Rattle.plain_machine.proofs.machine.PlainMachine.apply.Goals as goal

pub returns-in_default : goal.returns-in_default
returns-in_default c =
    let m = c.args.self.now in
    let w = c.args.world.now in
    let sizes = slice_index m.core.sizes.items in
    let next : Next PlainState = exec (places sizes) c.in-Operate.size (core_may m.core) c.in-Operate.operation (plain_state m.core) in
    let new = run_of (record { alloc = m.alloc; core = c.act.new.self; events = m.events; ended = m.ended }) w in
    record {
      performs =
          subst (λ (e : Effect). Performs (effect_on sizes (core_may m.core) e (run_of m w)) (run_of m w) new c.performed.result)
          (sym c.in-Operate.is)
          (subst (λ (next : Next PlainRun). Performs next (run_of m w) new c.performed.result)
          (sym (operates_on sizes (core_may m.core) (run_of m w) c.in-Operate.size c.in-Operate.operation c.in_default.not-System))
          (subst (λ (p : Performed). Performs (next_of (run_of m w) next) (run_of m w) new p) (sym c.performed.ensures)
          (performs_by next m c.act.new.self w c.act.result c.requires.going c.act.ensures)));
      stays = stays_by next m c.act.new.self c.act.result c.act.ensures;
    }

pub returns-in-Access-clause-performs : goal.returns-in-Access-clause-performs
returns-in-Access-clause-performs c =
    let m = c.args.self.now in
    let w = c.args.world.now in
    let sizes = slice_index m.core.sizes.items in
    let next : Next PlainState = spent c.in-Access.through c.in-Access.operation
    (exec (places sizes) 4 (core_may m.core) c.in-Access.operation (plain_state m.core)) in
    let new = run_of (record { alloc = m.alloc; core = c.access.new.self; events = m.events; ended = m.ended }) w in
    subst (λ (e : Effect). Performs (effect_on sizes (core_may m.core) e (run_of m w)) (run_of m w) new c.performed-in-Access.result)
    (sym c.in-Access.is)
    (subst (λ (p : Performed). Performs (next_of (run_of m w) next) (run_of m w) new p) (sym c.performed-in-Access.ensures)
    (performs_by next m c.access.new.self w c.access.result c.requires.going c.access.ensures))

pub returns-in-Restore-clause-performs : goal.returns-in-Restore-clause-performs
returns-in-Restore-clause-performs c =
    let m = c.args.self.now in
    let w = c.args.world.now in
    let sizes = slice_index m.core.sizes.items in
    let next : Next PlainState = restored sizes (core_may m.core) (plain_state m.core) c.in-Restore.site c.in-Restore.base in
    let new = run_of (record { alloc = m.alloc; core = c.restore.new.self; events = m.events; ended = m.ended }) w in
    subst (λ (e : Effect). Performs (effect_on sizes (core_may m.core) e (run_of m w)) (run_of m w) new c.performed-in-Restore.result)
    (sym c.in-Restore.is)
    (subst (λ (p : Performed). Performs (next_of (run_of m w) next) (run_of m w) new p) (sym c.performed-in-Restore.ensures)
    (performs_by next m c.restore.new.self w c.restore.result c.requires.going c.restore.ensures))

pub returns-in-Restore-clause-stays : goal.returns-in-Restore-clause-stays
returns-in-Restore-clause-stays c = stays_by
    (restored (slice_index c.args.self.now.core.sizes.items) (core_may c.args.self.now.core) (plain_state c.args.self.now.core)
    c.in-Restore.site
    c.in-Restore.base) c.args.self.now c.restore.new.self c.restore.result c.restore.ensures
