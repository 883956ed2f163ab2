-- The call with the number of the mark.
use Rattle.std.proofs.Common.{sym, ap, ◌∙◌}
use Rattle.call_sites.specs.Sites.{call_sites}
use Rattle.plain_run.specs.Jobs.{PlainJob}
use Rattle.plain_run.proofs.Standings.{call_told, site_called}
use Rattle.plain_run.proofs.text.PlainText.call_at.Goals as goal

pub returns-in-Some-call : goal.returns-in-Some-call
returns-in-Some-call c =
    let job = c.args.self.now in
    let are = c.self.invariant.job_is.sites_are ∙ ap (λ (j : PlainJob). call_sites j.files j.plan.groups) c.self.view_is in
    let told = call_told job.files job.plan.groups job.pairs c.args.p c.in-Some.mark c.in-Some-call.number
    (sym c.call.ensures ∙ c.in-Some-call.is) c.in-Some.ensures.some.1 in
    site_called job.files job.plan.groups job.pairs c.args.p c.self.inside.sites.now c.in-Some-call.number c.at.result.now are told
    c.at.ensures
