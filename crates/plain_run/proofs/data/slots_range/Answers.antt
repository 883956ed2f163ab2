-- group_start-requires, group_slots-requires: the group is there. overflow_add: its slots end low. returns: its range.
use Rattle.std.proofs.Common.{◌≡◌, ◌<◌, ◌+◌, ◌*◌, ◌^◌, ℕ, List, length, ap, ◌∙◌, subst, arith}
use Rattle.object_set.specs.declared.places.SymbolId.{SymbolId}
use Rattle.plain_machine.specs.declared.kept.AddressRange.{AddressRange}
use Rattle.toc_groups.specs.Data.{group_start, group_slots}
use Rattle.toc_groups.proofs.Reading.{named_long, starts_long, start_is, slots_read}
use Rattle.plain_run.proofs.DataPointers.{slots_end}
use Rattle.plain_run.proofs.data.slots_range.Goals as goal

pub group_start-start-requires : goal.group_start-start-requires
group_start-start-requires c =
    omega (arith, c.requires.group, starts_long c.args.res.now.files c.args.plan.now.span c.args.plan.now c.requires.plan.plan_is)

pub group_slots-requires : goal.group_slots-requires
group_slots-requires c =
    omega (arith, c.requires.group, named_long c.args.res.now.files c.args.plan.now.span c.args.plan.now c.requires.plan.plan_is)

pub overflow_add-result : goal.overflow_add-result
overflow_add-result c =
    let files = c.args.res.now.files in
    let span = c.args.plan.now.span in
    let plan = c.args.plan.now in
    let at : c.group_start-start.result ≡ group_start files span c.args.group =
    c.group_start-start.ensures ∙ start_is files span plan c.requires.plan.plan_is c.args.group c.requires.group in
    let read = slots_read files span plan c.requires.plan.plan_is c.args.group c.group_slots.result.now c.requires.group
    c.group_slots.ensures in
    let long : length c.group_slots.result.now ≡ length (group_slots files span c.args.group) = ap (λ (l : List SymbolId). length l) read in
    let start : group_start files span c.args.group < 2 ^ 64 = subst (λ (n : ℕ). n < 2 ^ 64) at c.group_start-start.type_inv in
    omega (arith, at, long, slots_end files span c.requires.plan.whole c.requires.plan.plan_is.fits c.args.group c.requires.group start)

pub returns : goal.returns
returns c =
    let files = c.args.res.now.files in
    let span = c.args.plan.now.span in
    let plan = c.args.plan.now in
    let read = slots_read files span plan c.requires.plan.plan_is c.args.group c.group_slots.result.now c.requires.group
    c.group_slots.ensures in
    let range : ℕ → List SymbolId → AddressRange = λ n l. record { start = n; stop = n + 8 * length l } in
    ap (λ (n : ℕ). range n c.group_slots.result.now)
    (c.group_start-start.ensures ∙ start_is files span plan c.requires.plan.plan_is c.args.group c.requires.group)
    ∙ ap (range (group_start files span c.args.group)) read
