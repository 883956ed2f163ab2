-- address_of-requires: where a symbol goes is in the files. returns: its address.
use Rattle.std.proofs.Common.{ap, sym, ◌∙◌}
use Rattle.std.specs.Prelude.{pos}
use Rattle.object_set.specs.Refusals.{set_refusal}
use Rattle.toc_groups.proofs.Reading.{laid_target, target_in}
use Rattle.toc_groups.proofs.RecordValues.{placed_target, address_read}
use Rattle.toc_groups.proofs.values.symbol_address.Goals as goal

pub address_of-requires-clause-laid : goal.address_of-requires-clause-laid
address_of-requires-clause-laid c =
    let files = c.args.res.now.files in
    let whole = ap set_refusal (sym c.set.ensures) ∙ c.file_count-files.ensures.whole in
    laid_target files c.args.plan.now.span c.args.plan.now c.requires.of_files.plan_is c.target.result
    (target_in files c.args.file c.args.symbol (pos 0) c.target.result whole c.requires.file c.requires.symbol c.target.ensures)

pub address_of-requires-clause-placed : goal.address_of-requires-clause-placed
address_of-requires-clause-placed c =
    let files = c.args.res.now.files in
    let whole = ap set_refusal (sym c.set.ensures) ∙ c.file_count-files.ensures.whole in
    placed_target files c.args.text.now.sections c.target.result
    (target_in files c.args.file c.args.symbol (pos 0) c.target.result whole c.requires.file c.requires.symbol c.target.ensures)
    c.requires.of_files.texts

pub returns : goal.returns
returns c =
    let files = c.args.res.now.files in
    let whole = ap set_refusal (sym c.set.ensures) ∙ c.file_count-files.ensures.whole in
    address_read files c.args.plan.now.span c.args.text.now.sections c.args.plan.now c.args.file c.args.symbol c.address_of.result
    c.target.result c.requires.of_files.plan_is
    (target_in files c.args.file c.args.symbol (pos 0) c.target.result whole c.requires.file c.requires.symbol c.target.ensures)
    c.target.ensures c.address_of.ensures
