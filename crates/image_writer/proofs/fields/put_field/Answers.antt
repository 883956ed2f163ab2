use Rattle.std.proofs.Common.{◌≡◌, ◌-◌, ℕ, ap, ◌∙◌, arith, to_z, of_z}
use Rattle.std.specs.Int.{w128}
use Rattle.std.proofs.lemmas.Int.{ints}
use Rattle.toc_groups.specs.Values.{field_address}
use Rattle.toc_groups.specs.Contents.{field_bytes}
use Rattle.placed_bytes.specs.Patches.{number_patch}
use Rattle.image_writer.proofs.Patching.{same_patched}
use Rattle.image_writer.proofs.Fielding.{field_is}
use Rattle.image_writer.proofs.fields.put_field.Goals as goal

-- the field's bytes are those of its number
pub returns-clause-put : goal.returns-clause-put
returns-clause-put c =
    let files = c.args.res.now.files in
    let span = c.args.plan.now.span in
    let text = c.args.places.now.sections in
    let v = to_z w128 (of_z w128 c.args.value) in
    let kept : to_z w128 (of_z w128 c.args.value) ≡ c.args.value = omega (arith, ints, c.ranges.value.sfits) in
    let at = ap (λ (n : ℕ). c.field_address.result - n) c.text_start.ensures
    ∙ ap (λ (n : ℕ). n - c.args.plan.now.text_start) c.field_address.ensures in
    let bytes = field_is files span text c.args.id c.args.kind c.width.result c.filled_field.result c.record_of-offset.result.offset
    c.args.bytes.now v c.width.ensures c.requires.bytes c.record_of-offset.ensures.offset (kept ∙ c.requires.value)
    c.filled_field.ensures.number in
    c.put_number.ensures
    ∙ same_patched c.args.text.now (c.field_address.result - c.text_start.result)
    (field_address files span text c.args.id - c.args.plan.now.text_start)
    (number_patch c.width.result (c.field_address.result - c.text_start.result) c.filled_field.result).bytes
    (field_bytes files span text c.args.id c.args.kind) at bytes
