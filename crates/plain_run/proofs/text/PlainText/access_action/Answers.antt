-- The value is where the record of the load goes.
use Rattle.std.proofs.Common.{◌≡◌, ℕ, subst, ◌∙◌}
use Rattle.plain_machine.specs.declared.value.PlainValue.{PlainValue}
use Rattle.plain_machine.specs.declared.value.PlainValue.TheVariants.{Pair}
use Rattle.plain_run.specs.Effects.{IsDone, IsWordCode, pair_access}
use Rattle.plain_run.specs.Places.{head_goal, head_place}
use Rattle.plain_run.specs.Standing.{field_at, word_at}
use Rattle.plain_run.proofs.FieldActions.{load_goal, has_load}
use Rattle.plain_run.proofs.text.PlainText.access_action.Goals.{in-Some, in-None}
use Rattle.plain_run.proofs.text.PlainText.access_action.Goals as goal

pub returns-clause-done : goal.returns-clause-done
returns-clause-done c =
    let files = c.args.self.now.files in
    let plan = c.args.self.now.plan in
    let load = head_place files plan c.args.p c.args.head in
    let value : c.match-load_at.goal ≡ head_goal files plan (field_at files load) =
    elim c.match-load_at.branch [
      | in-Some w ↦ w.goal-is ∙ w.goal-goal.ensures ∙ load_goal files plan load c.load_at.result _ w.in-Some.is c.load_at.ensures
      | in-None w ↦ absurd (has_load files load c.load_at.result w.in-None.is c.load_at.ensures)
    ] in
    subst (λ (v : PlainValue). IsDone (IsWordCode (word_at files c.args.p)) (pair_access (Pair load) v) c.pair_access.result) value
    (subst (λ (word : ℕ). IsDone (IsWordCode word) (pair_access (Pair load) c.match-load_at.goal) c.pair_access.result) c.word_at.ensures
    c.pair_access.ensures.done)
