-- The text of a plain run is what the job comes to, and its refusal is told by its line.
use Rattle.std.proofs.Common.{◌∙◌}
use Rattle.ppclink.proofs.PlainEnds.{plain_says, refuse_report}
use Rattle.ppclink.proofs.checking.check_job.Goals as goal

pub returns-in-Ok-plain_text-clause-report : goal.returns-in-Ok-plain_text-clause-report
returns-in-Ok-plain_text-clause-report g c =
    plain_says c.args.options.now c.args.budget c.from.result c.args.job.now c.args.input.items c.new-world.result _ c.in-Ok.end
    c.in-Ok-plain_text.field-0.status c.in-Ok-plain_text.field-0.text.items c.new-world.ensures.input
    (c.new-world.ensures.answers ∙ c.new.ensures.items) c.from.ensures c.in-Ok.ensures.end c.in-Ok-plain_text.ensures

pub returns-clause-report : goal.returns-clause-report
returns-clause-report g c =
    refuse_report c.args.options.now c.args.budget c.args.job.now c.args.input.items c.in-Err.refusal c.job_line.result
    c.text_report.result c.in-Err.ensures.refused c.job_line.ensures.line c.job_line.ensures.stated c.text_report.ensures
