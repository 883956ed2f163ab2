-- overflow_add, overflow_cast: the value is near 0, so its high half fits. returns: of a number alone the half is known.
use Rattle.std.proofs.Common.{◌≡◌, arith, ap, subst, sym, ◌∙◌, w64}
use Rattle.std.specs.Prelude.{FitsSigned}
use Rattle.std.proofs.lemmas.Int.{ints}
use Rattle.plain_machine.specs.declared.value.Part.TheVariants as part
use Rattle.plain_machine.specs.declared.value.PartTarget.{PartTarget}
use Rattle.plain_machine.specs.declared.value.PlainValue.TheVariants.{Part}
use Rattle.plain_run.specs.Places.{fixed_value, high_of}
use Rattle.plain_run.proofs.FieldParts.{no_half, known_half, part_made}
use Rattle.plain_run.proofs.FieldValues.{half_is, half_near}
use Rattle.plain_run.proofs.text.PlainText.toc_part.Goals.{in-Number, in_default}
use Rattle.plain_run.proofs.text.PlainText.toc_part.Goals as goal

pub overflow_add-high : goal.overflow_add-high
overflow_add-high c =
    let near = c.fixed_value-x.ensures.near in
    let low = near.low in
    let high = near.high in
    omega (arith, ints, low, high)

pub overflow_cast-high : goal.overflow_cast-high
overflow_cast-high c =
    let x = c.fixed_value-x.result in
    let near = half_near x c.fixed_value-x.ensures.near in
    let low = near.low in
    let high = near.high in
    subst (FitsSigned w64) (sym (half_is x c.fixed_value-x.ensures.near)) (omega (arith, ints, low, high))

pub returns : goal.returns
returns c =
    let files = c.args.self.now.files in
    let plan = c.args.self.now.plan in
    let x = fixed_value files plan c.args.id c.args.kind in
    let half : c.match-value.high ≡ high_of files plan c.goal-value.result x =
    elim c.match-value.branch [
      | in-Number w ↦ known_half files plan c.goal-value.result w.in-Number.field-0 w.fixed_value-x.result x c.match-value.high
          w.in-Number.is w.fixed_value-x.ensures.near w.fixed_value-x.ensures.value w.high-is
      | in_default w ↦ w.high-is ∙ no_half files plan c.goal-value.result x w.in_default.not-Number
    ] in
    ap (λ (t : PartTarget). Part (part.Toc c.args.id.file t c.match-value.high)) c.part_target.ensures
    ∙ part_made files plan c.args.id c.args.kind c.goal-value.result c.match-value.high c.goal-value.ensures half
