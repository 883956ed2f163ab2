-- The machine and the text of one job, with one table of contents.
use Rattle.std.proofs.Common.{◌≡◌, ap, sym, ◌∙◌}
use Rattle.plain_run.specs.Standing.{text_sizes}
use Rattle.plain_run.specs.inside.Data.{IsSoundPlan}
use Rattle.plain_run.specs.Jobs.{PlainJob}
use Rattle.plain_run.proofs.plain.Plain.start.Goals as goal

pub toc_ranges-requires : goal.toc_ranges-requires
toc_ranges-requires c =
    record { whole = c.requires.job.whole; records = c.requires.job.records; plan_is = c.requires.job.plan_is }

pub start_machine-requires-clause-plan : goal.start_machine-requires-clause-plan
start_machine-requires-clause-plan c =
    record { whole = c.requires.job.whole; records = c.requires.job.records; plan_is = c.requires.job.plan_is }

pub start_machine-requires-clause-toc : goal.start_machine-requires-clause-toc
start_machine-requires-clause-toc c = c.in_ok-kept.ensures.items ∙ c.deref.ensures.value ∙ c.in_ok-ranges.ensures

pub of_job-requires-clause-toc : goal.of_job-requires-clause-toc
of_job-requires-clause-toc c = c.in_ok-toc.ensures ∙ c.in_ok-ranges.ensures

pub invariant_of-result : goal.invariant_of-result
invariant_of-result c =
    record { sizes_are = c.in_ok-machine.ensures.sizes ∙ ap (λ (job : PlainJob). text_sizes job.files) (sym c.in_ok-text.ensures) }

pub returns : goal.returns
returns c = record {
  job_is = c.in_ok-text.ensures;
  state = c.in_ok-machine.ensures.state;
  may = c.in_ok-machine.ensures.may;
  events = c.in_ok-machine.ensures.events;
  ended = c.in_ok-machine.ensures.ended;
}
