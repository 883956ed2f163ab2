-- A step whose needs are met is its effect; one that isn't made leaves, by the effect's own reason first.
use Rattle.std.proofs.Common.{◌∙◌, sym, ap, subst, slice_index}
use Rattle.power_machine.specs.Machines.{Next, Left}
use Rattle.plain_machine.specs.Actions.{PlainRun}
use Rattle.plain_machine.specs.inside.Core.{core_may}
use Rattle.plain_machine.specs.inside.Machine.{run_of, Performs}
use Rattle.plain_machine.proofs.Performing.{met, unmet_fault, unmet_first, unmet_second, effect_fault, may_need, leaves, unmet_by, second_unmet}
use Rattle.plain_machine.proofs.machine.PlainMachine.perform.Goals as goal

pub returns-then-second-clause-performs : goal.returns-then-second-clause-performs
returns-then-second-clause-performs c =
    let m = c.args.self.now in
    let w = c.args.world.now in
    subst (λ (next : Next PlainRun). Performs next (run_of m w) (run_of c.apply.new.self c.apply.new.world) c.apply.result)
    (sym (met (slice_index m.core.sizes.items) (core_may m.core) c.args.action.now (run_of m w)
    (sym c.has-first.ensures ∙ c.if-first.true) (sym c.has-second.ensures ∙ c.if-second.true)))
    c.apply.ensures.performs

pub returns-in-Some-clause-performs : goal.returns-in-Some-clause-performs
returns-in-Some-clause-performs c =
    let m = c.args.self.now in
    let w = c.args.world.now in
    let sizes = slice_index m.core.sizes.items in
    let may = may_need (run_of m w).state c.args.action.now c.requires.action.needs
    (unmet_by (sym c.has-first.ensures) (sym c.has-second.ensures) c.else-first.either) in
    leaves _ (run_of m w) c.in-Some.reason
    (unmet_fault sizes (core_may m.core) c.args.action.now (run_of m w) c.in-Some.reason
    (effect_fault sizes (core_may m.core) c.args.action.now.effect (run_of m w) may ∙ sym c.fault.ensures ∙ c.in-Some.is))

pub returns-then-not-first-clause-performs : goal.returns-then-not-first-clause-performs
returns-then-not-first-clause-performs c =
    let m = c.args.self.now in
    let w = c.args.world.now in
    let sizes = slice_index m.core.sizes.items in
    let may = may_need (run_of m w).state c.args.action.now c.requires.action.needs
    (unmet_by (sym c.has-first.ensures) (sym c.has-second.ensures) c.else-first.either) in
    leaves _ (run_of m w) c.reason_of.result
    (unmet_first sizes (core_may m.core) c.args.action.now (run_of m w)
    (effect_fault sizes (core_may m.core) c.args.action.now.effect (run_of m w) may ∙ sym c.fault.ensures ∙ c.in_default.is)
    (sym c.has-first.ensures ∙ c.if-not-first.true)
    ∙ ap Left (sym c.reason_of.ensures))

pub returns-clause-performs : goal.returns-clause-performs
returns-clause-performs c =
    let m = c.args.self.now in
    let w = c.args.world.now in
    let sizes = slice_index m.core.sizes.items in
    let first = sym c.has-first.ensures ∙ c.if-not-first.false in
    let unmet = unmet_by (sym c.has-first.ensures) (sym c.has-second.ensures) c.else-first.either in
    let may = may_need (run_of m w).state c.args.action.now c.requires.action.needs unmet in
    leaves _ (run_of m w) c.reason_of-2.result
    (unmet_second sizes (core_may m.core) c.args.action.now (run_of m w)
    (effect_fault sizes (core_may m.core) c.args.action.now.effect (run_of m w) may ∙ sym c.fault.ensures ∙ c.in_default.is)
    first (second_unmet first unmet)
    ∙ ap Left (sym c.reason_of-2.ensures))
