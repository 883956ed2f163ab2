-- Each file has a base.
use Rattle.std.proofs.Common.{◌<◌, length, arith, ap, subst, sym, ◌∙◌}
use Rattle.std.proofs.lemmas.Option.{get_or_from_slice_get}
use Rattle.toc_groups.proofs.Reading.{bases_long}
use Rattle.plain_run.specs.Places.{base_at}
use Rattle.plain_run.specs.Jobs.{PlainJob}
use Rattle.plain_run.proofs.text.PlainText.base_of.Goals as goal

pub base_of-requires : goal.base_of-requires
base_of-requires c =
    let files = c.self.inside.res.now.files in
    let plan = c.self.inside.plan.now in
    let within = subst (λ (j : PlainJob). c.args.file < length j.files) (sym c.self.view_is) c.requires in
    omega (arith, within, bases_long files plan.span plan c.self.invariant.job_is.plan_is)

pub returns : goal.returns
returns c =
    sym (get_or_from_slice_get c.self.inside.plan.now.bases c.args.file c.base_of.result 0 c.base_of.ensures)
    ∙ ap (λ (j : PlainJob). base_at j.files j.plan c.args.file) c.self.view_is
