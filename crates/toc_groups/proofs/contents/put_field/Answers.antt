-- filled_field-requires, put_number-requires: the field lies in its section, and in a segment. returns: it is filled.
use Rattle.std.specs.Int.{w128}
use Rattle.std.proofs.lemmas.Int.{ints}
use Rattle.std.proofs.Common.{ℕ, ◌≡◌, to_z, of_z, List, length, ap, sym, subst, ◌∙◌, refl, arith}
use Rattle.byteorder.specs.Endian.{little_bytes}
use Rattle.toc_groups.specs.declared.pieces.DataEnds.{DataEnds}
use Rattle.toc_groups.specs.Plans.{data_ends}
use Rattle.toc_groups.specs.Values.{field_address}
use Rattle.toc_groups.specs.inside.Memory.{HasRange, Puts, byte_of}
use Rattle.toc_groups.proofs.FieldFilling.{sound_files, field_more}
use Rattle.toc_groups.proofs.FieldOverflow.{field_range, field_within, bytes_filled}
use Rattle.toc_groups.proofs.contents.put_field.Goals as goal

pub filled_field-requires-clause-within : goal.filled_field-requires-clause-within
filled_field-requires-clause-within c =
    let files = c.args.res.now.files in
    let span = c.args.plan.now.span in
    let text = c.args.text.now.sections in
    let sound = sound_files files span text c.set.result.now c.args.plan.now c.set.ensures c.file_count-files.ensures.whole
    c.requires.of_files refl in
    let long = ap (λ (l : List ℕ). length l) c.requires.bytes in
    omega (arith, field_within files span text c.args.id c.args.kind sound c.requires.field, long, c.record_of-offset.ensures.offset)

pub put_number-requires-clause-room : goal.put_number-requires-clause-room
put_number-requires-clause-room c =
    let files = c.args.res.now.files in
    let span = c.args.plan.now.span in
    let text = c.args.text.now.sections in
    let sound = sound_files files span text c.set.result.now c.args.plan.now c.set.ensures c.file_count-files.ensures.whole
    c.requires.of_files refl in
    subst (λ (e : DataEnds). HasRange e c.field_address-address.result c.width.result)
    (sym (c.requires.ends ∙ c.requires.of_files.plan_is.ends))
    (subst (λ (a : ℕ). HasRange (data_ends files span) a c.width.result) (sym c.field_address-address.ensures)
    (subst (λ (n : ℕ). HasRange (data_ends files span) (field_address files span text c.args.id) n) (sym c.width.ensures)
    (field_range files span text c.args.id c.args.kind sound c.requires.field)))

pub returns-clause-filled : goal.returns-clause-filled
returns-clause-filled c =
    let files = c.args.res.now.files in
    let span = c.args.plan.now.span in
    let text = c.args.text.now.sections in
    let sound = sound_files files span text c.set.result.now c.args.plan.now c.set.ensures c.file_count-files.ensures.whole
    c.requires.of_files refl in
    let old = byte_of c.args.memory.now in
    let new = byte_of c.put_number.new.self in
    let kept : to_z w128 (of_z w128 c.args.value) ≡ c.args.value = omega (arith, ints, c.ranges.value.sfits) in
    let bytes = bytes_filled files span text c.args.id c.args.kind c.args.bytes.now c.width.result c.record_of-offset.result.offset
    c.filled_field.result (to_z w128 (of_z w128 c.args.value)) c.requires.bytes c.width.ensures c.record_of-offset.ensures.offset
    (kept ∙ c.requires.value) c.filled_field.ensures.number in
    field_more files span text c.args.id c.args.kind old new sound c.requires.field
    (subst (λ (l : List ℕ). Puts old (field_address files span text c.args.id) l new) bytes
    (subst (λ (a : ℕ). Puts old a (little_bytes c.width.result c.filled_field.result) new) c.field_address-address.ensures
    c.put_number.ensures.puts)) c.requires.before
