-- A restore finds the saved TOC base of its call, or the base itself.
use Rattle.std.proofs.Common.{refl, sym, ap, ◌∙◌, subst, slice_index}
use Rattle.power_machine.specs.Machines.{Next}
use Rattle.plain_machine.specs.Plain.{PlainState}
use Rattle.plain_machine.specs.inside.Core.{Did, plain_state}
use Rattle.plain_machine.specs.inside.Memory.{held_at}
use Rattle.plain_machine.proofs.Performing.{restores, one_of}
use Rattle.plain_machine.proofs.state.PlainCore.restore.Goals as goal

pub returns : goal.returns
returns c =
    let core = c.args.self.now in
    let m = core.memory in
    let own = c.in-Some-Some.own in
    let number = c.in-Some-Some.number in
    subst (λ (next : Next PlainState). Did next core c.finish.new.self c.finish.result)
    (sym (restores (slice_index core.sizes.items) m (plain_state core) c.args.site c.args.base c.in-Some.at own number refl
    (sym c.save_address.ensures ∙ c.in-Some.is)
    (ap (held_at m c.in-Some.at) (sym c.slot_cells.ensures) ∙ sym c.holds.ensures ∙ c.in-Some-Some.is-0)
    (ap (held_at m c.in-Some.at) (sym c.number_cells.ensures) ∙ sym c.holds-2.ensures ∙ c.in-Some-Some.is-1)
    (one_of own number c.else-not-own.either)))
    c.finish.ensures
