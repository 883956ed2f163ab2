-- returns: the field as a number, of four bytes or of eight.
use Rattle.std.proofs.Common.{◌≡◌, ◌≢◌, ap, sym, ◌∙◌, arith, to_z, of_z}
use Rattle.std.specs.Int.{w128}
use Rattle.std.proofs.lemmas.Int.{ints}
use Rattle.ppc_bytes.specs.Bytes.{number_at}
use Rattle.reloc_fields.specs.Table.{line_of, filled}
use Rattle.toc_groups.proofs.FieldOverflow.{eight, number_filled}
use Rattle.toc_groups.proofs.contents.filled_field.Goals as goal

pub returns-then-width-eq4-clause-number : goal.returns-then-width-eq4-clause-number
returns-then-width-eq4-clause-number c =
    let v = to_z w128 (of_z w128 c.args.value) in
    let kept : to_z w128 (of_z w128 c.args.value) ≡ c.args.value = omega (arith, ints, c.ranges.value.sfits) in
    let line = line_of c.args.kind in
    number_filled c.args.kind c.args.bytes.now c.args.offset 4 c.from.result c.fill.result v (omega arith) (omega arith)
    (c.from.ensures ∙ c.word_at.ensures) (sym c.width.ensures ∙ c.if-width-eq4.true) c.fill.ensures.bits
    ∙ ap (filled line.filling (number_at line.width c.args.bytes.now c.args.offset)) kept

pub returns-else-width-eq4-clause-number : goal.returns-else-width-eq4-clause-number
returns-else-width-eq4-clause-number c =
    let v = to_z w128 (of_z w128 c.args.value) in
    let kept : to_z w128 (of_z w128 c.args.value) ≡ c.args.value = omega (arith, ints, c.ranges.value.sfits) in
    let line = line_of c.args.kind in
    let other : (line_of c.args.kind).width ≢ 4 = λ is. c.if-width-eq4.false (c.width.ensures ∙ is) in
    number_filled c.args.kind c.args.bytes.now c.args.offset 8 c.long_at.result c.fill-else-width-eq4.result v (omega arith)
    (omega arith) c.long_at.ensures (eight c.args.kind c.requires.fills other) c.fill-else-width-eq4.ensures.bits
    ∙ ap (filled line.filling (number_at line.width c.args.bytes.now c.args.offset)) kept
