-- The executable of a job is written, and its refusal is told by its line.
use Rattle.std.proofs.Common.{refl, sym, subst}
use Rattle.std.specs.Prelude.{Ok}
use Rattle.object_set.specs.Files.{contents_of}
use Rattle.link_engine.specs.Link.{LinksTo}
use Rattle.link_engine.specs.laws.Outcomes.{linked_gives}
use Rattle.ppclink.proofs.Linking.{write_report, refuse_report}
use Rattle.ppclink.proofs.jobs.link_job.Goals as goal

pub returns-in-Ok-clause-report : goal.returns-in-Ok-clause-report
returns-in-Ok-clause-report g c =
    write_report _ _ c.args.out.now _ c.args.options.now c.args.job.now c.write_out.result
    (subst (λ i. LinksTo (contents_of c.args.job.now) c.args.options.now (Ok i)) (sym c.as_slice.ensures.value)
    (linked_gives _ _ c.in-Ok.linked c.in-Ok.ensures.linked))
    c.write_out.ensures

pub returns-in-Err-clause-report : goal.returns-in-Err-clause-report
returns-in-Err-clause-report g c =
    refuse_report _ _ c.args.out.now c.args.options.now c.args.job.now c.in-Err.refusal c.job_line.result c.text_report.result refl
    c.in-Err.ensures.refused c.job_line.ensures.line c.job_line.ensures.stated c.text_report.ensures
