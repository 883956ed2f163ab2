use Rattle.std.proofs.Common.{ℕ, Option, ap, sym, ◌∙◌}
use Rattle.std.specs.Prelude.{unwrap_or}
use Rattle.toc_groups.specs.Values.{code_address}
use Rattle.toc_groups.proofs.Reading.{laid_target, address_is}
use Rattle.toc_groups.proofs.RecordValues.{placed_target}
use Rattle.image_writer.specs.TocLoads.{held_by}
use Rattle.image_writer.proofs.toc_loads.slot_value.Goals as goal

-- where it goes lies in data or in text
pub address_of-requires-clause-laid : goal.address_of-requires-clause-laid
address_of-requires-clause-laid c =
    laid_target c.args.res.now.files c.args.plan.now.span c.args.plan.now c.requires.of_files.plan_is
    c.target_of.result c.target_of.ensures.known

pub address_of-requires-clause-placed : goal.address_of-requires-clause-placed
address_of-requires-clause-placed c =
    placed_target c.args.res.now.files c.args.places.now.sections c.target_of.result c.target_of.ensures.known c.requires.of_files.texts

-- at the address that the slot holds
pub returns : goal.returns
returns c =
    let files = c.args.res.now.files in
    let span = c.args.plan.now.span in
    let text = c.args.places.now.sections in
    let target = c.target_of.result in
    c.address_of.ensures
    ∙ ap (λ (o : Option ℕ). unwrap_or o (code_address text target))
    (address_is files span c.args.plan.now c.requires.of_files.plan_is target c.target_of.ensures.known)
    ∙ sym (ap (held_by files span text) c.target_of.ensures.target)
