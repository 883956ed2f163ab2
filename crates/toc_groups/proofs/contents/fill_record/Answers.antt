-- returns: a record that fills nothing in data changes nothing; of another one the field holds its value or not.
use Rattle.std.proofs.Common.{◌≡◌, Some, ap, sym, ◌∙◌, arith, to_z, of_z}
use Rattle.std.specs.Int.{w128}
use Rattle.std.proofs.lemmas.Int.{ints}
use Rattle.object_set.specs.declared.refusal.Refusal.TheVariants.{Overflow}
use Rattle.object_set.specs.declared.refusal.Site.{Site}
use Rattle.toc_groups.specs.inside.Memory.{byte_of}
use Rattle.toc_groups.proofs.FieldFilling.{field_skip}
use Rattle.toc_groups.proofs.FieldOverflow.{none_overflows, field_holds, field_fails}
use Rattle.toc_groups.proofs.contents.fill_record.Goals as goal

pub returns-in-None-clause-refusal : goal.returns-in-None-clause-refusal
returns-in-None-clause-refusal c =
    none_overflows c.args.res.now.files c.args.plan.now.span c.args.text.now.sections c.args.id c.requires.record c.in-None.ensures.none

pub returns-in-None-clause-filled : goal.returns-in-None-clause-filled
returns-in-None-clause-filled c =
    field_skip c.args.res.now.files c.args.plan.now.span c.args.text.now.sections c.args.id (byte_of c.args.memory.now) c.requires.record
    c.in-None.ensures.none c.requires.before

pub returns-then-not-holds_value-clause-refusal : goal.returns-then-not-holds_value-clause-refusal
returns-then-not-holds_value-clause-refusal c =
    let v = c.record_value-value.result in
    let kept : to_z w128 (of_z w128 v) ≡ v = omega (arith, ints, c.record_value-value.type_inv) in
    field_fails c.args.res.now.files c.args.plan.now.span c.args.text.now.sections c.args.id c.in-Some.kind (to_z w128 (of_z w128 v))
    c.holds_value.result c.in-Some.ensures.some (kept ∙ c.record_value-value.ensures) c.holds_value.ensures c.if-not-holds_value.true
    ∙ ap (λ (s : Site). Some (Overflow s (to_z w128 (of_z w128 v)))) (sym c.site_of.ensures)

pub returns-clause-refusal : goal.returns-clause-refusal
returns-clause-refusal c =
    let v = c.record_value-value.result in
    let kept : to_z w128 (of_z w128 v) ≡ v = omega (arith, ints, c.record_value-value.type_inv) in
    field_holds c.args.res.now.files c.args.plan.now.span c.args.text.now.sections c.args.id c.in-Some.kind (to_z w128 (of_z w128 v))
    c.holds_value.result c.in-Some.ensures.some (kept ∙ c.record_value-value.ensures) c.holds_value.ensures c.if-not-holds_value.false
