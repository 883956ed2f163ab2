-- After the end nothing changes; before it the machine does what stands at its place.
use Rattle.std.proofs.Common.{ap, sym, ◌∙◌, subst}
use Rattle.plain_machine.specs.declared.place.TextPlace.{TextPlace}
use Rattle.plain_machine.specs.inside.Machine.{run_of as machine_run, machine_sizes}
use Rattle.plain_run.specs.Places.{IsActionAt}
use Rattle.plain_run.specs.Running.{job_of, run_of, may_of}
use Rattle.plain_run.specs.Runs.{Made}
use Rattle.plain_run.specs.inside.Starts.{outcome_by}
use Rattle.plain_run.proofs.Stepping.{made_over, made_by}
use Rattle.plain_run.proofs.plain.Plain.step.Goals as goal

pub returns-in-Some-clause-made : goal.returns-in-Some-clause-made
returns-in-Some-clause-made c =
    let p = c.args.self.now in
    made_over (job_of p) (may_of p) (run_of p c.args.world.now) c.in-Some.status (sym c.ended.ensures ∙ c.in-Some.is)

pub returns-clause-made : goal.returns-clause-made
returns-clause-made c =
    let p = c.args.self.now in
    let old = run_of p c.args.world.now in
    let new = machine_run c.perform.new.self c.perform.new.world in
    let action = c.action_at-action.result in
    let made = made_by (job_of p) (may_of p) old new action (machine_sizes p.machine) c.perform.result
    (sym c.ended.ensures ∙ c.in_default.is)
    (subst (λ (q : TextPlace). IsActionAt p.text.files p.text.plan p.text.pairs q action) c.place-place.ensures
    c.action_at-action.ensures.action)
    p.sizes_are c.perform.ensures.performs in
    subst (Made (job_of p) (may_of p) old new) (sym (c.outcome_by.ensures ∙ ap (outcome_by c.perform.result) c.place-place.ensures)) made
