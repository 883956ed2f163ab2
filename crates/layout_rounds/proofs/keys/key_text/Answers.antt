-- call_keys-requires-clause-from: the section of a call has a spot. invariant_of-result: the text is made of the shape.
use Rattle.std.proofs.Common.{◌∙◌, ap, arith, List, length}
use Rattle.std.proofs.lemmas.List.FromFn.{length-map-range_with_len}
use Rattle.layout_rounds.specs.declared.shape.ShapeSection.{ShapeSection}
use Rattle.layout_rounds.specs.declared.grouping.Spot.{Spot}
use Rattle.layout_rounds.specs.Shapes.{spot_at, unit_upto}
use Rattle.layout_rounds.proofs.KeysUpto.{text_keyed}
use Rattle.layout_rounds.proofs.keys.key_text.Goals as goal

pub call_keys-requires-clause-from : goal.call_keys-requires-clause-from
call_keys-requires-clause-from c =
    let sections = c.args.shape.now.sections.items in
    let long = ap (λ (xs : List Spot). length xs) c.requires.spots in
    let all = length-map-range_with_len (spot_at sections c.args.reach) 0 (length sections) in
    rw (c.as_slice.ensures.value, c.as_slice-2.ensures.value)
    (λ i lt. omega (arith, long, all, (c.requires.sound.from i lt).section_in))

pub invariant_of-result : goal.invariant_of-result
invariant_of-result c =
    text_keyed c.args.shape.now c.args.reach c.unit_of.result c.in_ok-from_slice.field-0.items c.args.spots.items
    c.in_ok-calls.calls.keys.items c.in_ok-calls.calls.numbers.items c.requires.sound
    (c.in_ok-from_slice.ensures.items ∙ c.as_slice-4.ensures.value) c.requires.spots
    (rw (c.as_slice.ensures.value, c.as_slice-2.ensures.value) at c.in_ok-calls.ensures.keys)
    (c.unit_of.ensures ∙ ap (λ (xs : List ShapeSection). unit_upto xs (length xs)) c.as_slice-3.ensures.value)
