use Rattle.std.proofs.Common.{◌≡◌, Some, sym, ap, ◌∙◌, arith, to_z, of_z}
use Rattle.std.specs.Prelude.{◌-ℤ◌}
use Rattle.std.specs.Int.{w128}
use Rattle.std.proofs.lemmas.Int.{ints}
use Rattle.std.proofs.lemmas.Option.{get_or_from_slice_get}
use Rattle.object_set.specs.Refusals.{set_refusal}
use Rattle.toc_groups.proofs.Reading.{laid_target, bases_long, base_is}
use Rattle.image_writer.specs.TocLoads.{slot_distance}
use Rattle.image_writer.proofs.Naming.{no_slot, the_slot, named_filled}
use Rattle.image_writer.proofs.toc_loads.named_distance.Goals as goal

-- where the record goes is read of the plan
pub address-requires : goal.address-requires
address-requires c =
    laid_target c.args.res.now.files c.args.plan.now.span c.args.plan.now c.requires.of_files.plan_is
    c.target_of.result c.target_of.ensures.known

-- no slot begins there
pub returns-in_err-slot : goal.returns-in_err-slot
returns-in_err-slot c =
    let files = c.args.res.now.files in
    let span = c.args.plan.now.span in
    let whole = ap set_refusal (sym c.set.ensures) ∙ c.file_count-files.ensures.whole in
    c.from_residual-in_err-slot.ensures
    ∙ sym (no_slot files span c.args.plan.now c.requires.of_files.plan_is whole c.requires.of_files.records
    (λ a p q one other. c.parts_are_apart.ensures files span a p q whole one other) c.args.places.now.sections
    c.args.folds.now c.args.id c.target_of.result c.in_ok-number.number
    c.requires.folds c.target_of.ensures.target c.target_of.ensures.known c.in_ok-number.ensures c.in_err-slot.ensures)

-- the one that does is filled by a record that goes somewhere
pub slot_value-value-requires-clause-record : goal.slot_value-value-requires-clause-record
slot_value-value-requires-clause-record c =
    (named_filled c.args.res.now.files c.args.plan.now.span c.args.folds.now c.args.id.file c.in_ok-number.number c.in_ok-slot.slot
    c.requires.folds c.in_ok-slot.ensures).within

pub slot_value-value-requires-clause-goes : goal.slot_value-value-requires-clause-goes
slot_value-value-requires-clause-goes c =
    (named_filled c.args.res.now.files c.args.plan.now.span c.args.folds.now c.args.id.file c.in_ok-number.number c.in_ok-slot.slot
    c.requires.folds c.in_ok-slot.ensures).goes

-- each file has a base
pub base_of-requires : goal.base_of-requires
base_of-requires c =
    let plan = c.args.plan.now in
    omega (arith, c.requires.record.file_in, bases_long c.args.res.now.files plan.span plan c.requires.of_files.plan_is)

-- so far it lies
pub returns : goal.returns
returns c =
    let files = c.args.res.now.files in
    let span = c.args.plan.now.span in
    let text = c.args.places.now.sections in
    let slot = c.in_ok-slot.slot in
    let whole = ap set_refusal (sym c.set.ensures) ∙ c.file_count-files.ensures.whole in
    let named = the_slot files span c.args.plan.now c.requires.of_files.plan_is whole c.requires.of_files.records
    (λ a p q one other. c.parts_are_apart.ensures files span a p q whole one other) text c.args.folds.now c.args.id c.target_of.result
    c.in_ok-number.number slot c.requires.folds c.target_of.ensures.target c.target_of.ensures.known c.in_ok-number.ensures
    c.in_ok-slot.ensures in
    let base = base_is files span c.args.plan.now c.requires.of_files.plan_is c.args.id.file c.requires.record.file_in in
    let read = get_or_from_slice_get c.args.plan.now.bases c.args.id.file c.base_of.result 0 c.base_of.ensures in
    let value = c.slot_value-value.ensures in
    let far = slot_distance files span text c.args.id.file slot.id in
    let same : to_z w128 (of_z w128 (to_z w128 (of_z w128 c.from.result) -ℤ to_z w128 (of_z w128 c.from-2.result))) ≡ far =
    omega (arith, ints, c.from.ensures, c.from-2.ensures, c.slot_value-value.type_inv, c.base_of.type_inv, read, base, value) in
    ap Some same ∙ sym named
