use Rattle.std.proofs.Common.{◌≡◌, Some, ap, sym, ◌∙◌, arith, to_z, of_z}
use Rattle.std.specs.Int.{w128}
use Rattle.std.proofs.lemmas.Int.{ints}
use Rattle.object_set.specs.declared.refusal.Refusal.TheVariants.{Overflow}
use Rattle.object_set.specs.declared.refusal.Site.{Site}
use Rattle.image_writer.specs.Rewriting.{rewriting_of}
use Rattle.image_writer.proofs.Checking.{none_told, not_told, is_told}
use Rattle.image_writer.proofs.Fielding.{text_field}
use Rattle.image_writer.proofs.records.put_record.Goals as goal

-- a record that puts nothing into text doesn't overflow
pub returns-in-None-clause-refusal : goal.returns-in-None-clause-refusal
returns-in-None-clause-refusal c =
    none_told c.args.res.now.files c.args.plan.now.span c.args.places.now.sections
    (rewriting_of c.args.res.now.files c.args.plan.now.span c.args.pairs.now) c.args.id (sym c.text_kind.ensures ∙ c.in-None.is)

-- one that does has a kind
pub record_value-value-requires-clause-kind : goal.record_value-value-requires-clause-kind
record_value-value-requires-clause-kind c =
    (text_field c.args.res.now.files c.args.id c.in-Some.kind (sym c.text_kind.ensures ∙ c.in-Some.is)).known

-- its field doesn't hold its value
pub returns-then-not-is_checked-clause-refusal : goal.returns-then-not-is_checked-clause-refusal
returns-then-not-is_checked-clause-refusal c =
    let v = c.record_value-value.result in
    let kept : to_z w128 (of_z w128 v) ≡ v = omega (arith, ints, c.record_value-value.type_inv) in
    is_told c.args.res.now.files c.args.plan.now.span c.args.places.now.sections
    (rewriting_of c.args.res.now.files c.args.plan.now.span c.args.pairs.now) c.args.id c.in-Some.kind c.toc_record-load.result
    (to_z w128 (of_z w128 v)) c.is_checked.result (sym c.text_kind.ensures ∙ c.in-Some.is) c.toc_record-load.ensures.record
    c.toc_record-load.ensures.kind (kept ∙ c.record_value-value.ensures) c.is_checked.ensures.test c.if-not-is_checked.true
    ∙ ap (λ (s : Site). Some (Overflow s (to_z w128 (of_z w128 v)))) (sym c.site_of.ensures)

-- or it does, or isn't checked
pub returns-clause-refusal : goal.returns-clause-refusal
returns-clause-refusal c =
    let v = c.record_value-value.result in
    let kept : to_z w128 (of_z w128 v) ≡ v = omega (arith, ints, c.record_value-value.type_inv) in
    not_told c.args.res.now.files c.args.plan.now.span c.args.places.now.sections
    (rewriting_of c.args.res.now.files c.args.plan.now.span c.args.pairs.now) c.args.id c.in-Some.kind c.toc_record-load.result
    (to_z w128 (of_z w128 v)) c.is_checked.result (sym c.text_kind.ensures ∙ c.in-Some.is) c.toc_record-load.ensures.record
    c.toc_record-load.ensures.kind (kept ∙ c.record_value-value.ensures) c.is_checked.ensures.test c.if-not-is_checked.false
