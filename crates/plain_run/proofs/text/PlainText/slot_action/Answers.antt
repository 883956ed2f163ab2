-- The value of a load is where its record goes, or that of a recognised pair.
use Rattle.std.proofs.Common.{◌≡◌, ℕ, subst, ◌∙◌}
use Rattle.std.specs.Prelude.{IfSome, IfNone}
use Rattle.std.specs.List.{Contains}
use Rattle.pcrel_rewrite.specs.TextPairs.{tail_at, text_pair}
use Rattle.plain_run.specs.Places.{slot_value}
use Rattle.plain_run.specs.Jobs.{PlainJob}
use Rattle.plain_run.proofs.PairActions.{pair_value, own_value, slot_made}
use Rattle.plain_run.proofs.text.PlainText.slot_action.Goals.{in-Some, in-None}
use Rattle.plain_run.proofs.text.PlainText.slot_action.Goals as goal

pub returns-clause-action : goal.returns-clause-action
returns-clause-action c =
    let job = c.args.self.now in
    let p = c.args.p in
    let some = subst (λ (j : PlainJob). IfSome c.head.result (λ n. Contains j.pairs (text_pair p.section p.offset n))) c.self.view_is
    c.head.ensures.some in
    let none = subst (λ (j : PlainJob). IfNone c.head.result ((n : ℕ) → ¬ Contains j.pairs (text_pair p.section p.offset n))) c.self.view_is
    c.head.ensures.none in
    let value : c.match-head.value ≡ slot_value job.files job.plan p c.args.id (tail_at job.pairs p.section p.offset) =
    elim c.match-head.branch [
      | in-Some w ↦ w.value-is ∙ pair_value job.files job.plan job.pairs p c.args.id c.head.result _ w.in-Some.is some
      | in-None w ↦ w.value-is ∙ c.requires.goal ∙ own_value job.files job.plan job.pairs p c.args.id c.head.result w.in-None.is none
    ] in
    slot_made job.files job.plan job.pairs p c.args.id c.ahead.result c.may_cross.result c.word_at.result c.target_register.result
    c.match-head.value c.does.result c.ahead.ensures c.may_cross.ensures c.if-may_cross.false c.word_at.ensures
    c.target_register.ensures.register value c.does.ensures.action
