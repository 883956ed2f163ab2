-- A call stands where its mark says.
use Rattle.std.proofs.Common.{ap, ◌∙◌, subst}
use Rattle.call_sites.specs.Sites.{call_sites}
use Rattle.plain_run.specs.inside.Marks.{MarkTells}
use Rattle.plain_run.specs.Jobs.{PlainJob}
use Rattle.plain_run.proofs.Standings.{call_stands}
use Rattle.plain_run.proofs.text.PlainText.standing_at.Goals as goal

pub returns-in-Some-Call-clause-standing : goal.returns-in-Some-Call-clause-standing
returns-in-Some-Call-clause-standing c =
    let job = c.args.self.now in
    let are = c.self.invariant.job_is.sites_are ∙ ap (λ (j : PlainJob). call_sites j.files j.plan.groups) c.self.view_is in
    call_stands job.files job.plan.groups job.pairs c.args.p c.in-Some-Call.ensures.some.0 c.self.inside.sites.now c.in-Some-Call.number
    c.at.result.now are
    (subst (MarkTells job.files job.pairs c.args.p) c.in-Some-Call.field-0-is c.in-Some-Call.ensures.some.1) c.at.ensures
