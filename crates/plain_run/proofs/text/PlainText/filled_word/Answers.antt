-- A field that is filled with a number is a word, and holds the number.
use Rattle.std.proofs.Common.{◌≡◌, ◌<◌, ℕ, arith, subst, sym, ◌∙◌, to_z, of_z, ◌^◌}
use Rattle.std.specs.Int.{w128}
use Rattle.std.proofs.lemmas.Int.{ints}
use Rattle.reloc_fields.specs.Table.{line_of, Passes}
use Rattle.plain_run.proofs.FieldParts.{held_field}
use Rattle.plain_run.proofs.text.PlainText.filled_word.Goals as goal

pub fixed_value-value-requires-clause-symbol : goal.fixed_value-value-requires-clause-symbol
fixed_value-value-requires-clause-symbol c =
    (held_field _ c.args.self.now _ _ c.args.p c.args.id c.args.kind c.self.invariant.job_is c.self.view_is c.requires.field
    c.requires.fixed).word.looks

pub filled_field-requires-clause-within : goal.filled_field-requires-clause-within
filled_field-requires-clause-within c =
    let held = held_field _ c.args.self.now _ _ c.args.p c.args.id c.args.kind c.self.invariant.job_is c.self.view_is c.requires.field
    c.requires.fixed in
    let width = held.word.width in
    omega (arith, width, c.bytes_of.ensures.within)

pub filled_field-requires-clause-holds : goal.filled_field-requires-clause-holds
filled_field-requires-clause-holds c =
    let held = held_field _ c.args.self.now _ _ c.args.p c.args.id c.args.kind c.self.invariant.job_is c.self.view_is c.requires.field
    c.requires.fixed in
    let x = c.fixed_value-value.result in
    let kept : to_z w128 (of_z w128 x) ≡ x = omega (arith, ints, c.fixed_value-value.type_inv) in
    subst (Passes (line_of c.args.kind).check) (sym (kept ∙ c.fixed_value-value.ensures.value)) held.holds

pub overflow_cast-result : goal.overflow_cast-result
overflow_cast-result c =
    let held = held_field _ c.args.self.now _ _ c.args.p c.args.id c.args.kind c.self.invariant.job_is c.self.view_is c.requires.field
    c.requires.fixed in
    let width = held.word.width in
    let fits = subst (λ (n : ℕ). c.filled_field.result < 256 ^ n) width c.filled_field.ensures.fits in
    omega (arith, fits)
