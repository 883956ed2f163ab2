-- base_of-requires: each file has a base. returns: the value is made of these numbers.
use Rattle.std.proofs.Common.{◌≡◌, arith, ◌∙◌, to_z, of_z, w64}
use Rattle.std.specs.Int.{w128}
use Rattle.std.proofs.lemmas.Int.{ints}
use Rattle.toc_groups.proofs.Reading.{bases_long, base_is}
use Rattle.toc_groups.proofs.RecordValues.{value_made}
use Rattle.toc_groups.proofs.values.record_value.Goals as goal

pub base_of-requires : goal.base_of-requires
base_of-requires c =
    let plan = c.args.plan.now in
    omega (arith, c.requires.record.file_in, bases_long c.args.res.now.files plan.span plan c.requires.of_files.plan_is)

pub returns : goal.returns
returns c =
    let files = c.args.res.now.files in
    let plan = c.args.plan.now in
    let addend = c.addend_of-addend.result in
    let same : to_z w64 (of_z w64 addend) ≡ addend = omega (arith, ints, c.addend_of-addend.type_inv) in
    let kept : to_z w128 (of_z w128 c.value_of.result) ≡ c.value_of.result = omega (arith, ints, c.value_of.type_inv) in
    kept ∙ value_made files plan.span c.args.text.now.sections c.args.id c.args.kind c.value_of.result (to_z w64 (of_z w64 addend))
    c.source_address-source.result c.field_address-place.result c.base_of.result plan.bases c.value_of.ensures
    c.source_address-source.ensures (same ∙ c.addend_of-addend.ensures) c.field_address-place.ensures c.base_of.ensures
    (base_is files plan.span plan c.requires.of_files.plan_is c.args.id.file c.requires.record.file_in)
