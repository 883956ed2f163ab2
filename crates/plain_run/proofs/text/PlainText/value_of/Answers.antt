-- address-requires: a target of the files is laid out. returns: its address, where data tells it.
use Rattle.std.proofs.Common.{◌≡◌, Some, ap, subst, sym, ◌∙◌}
use Rattle.toc_groups.specs.Data.{target_address}
use Rattle.toc_groups.specs.Parts.{IsTargetOf}
use Rattle.toc_groups.proofs.Reading.{laid_target, address_is}
use Rattle.plain_run.specs.Places.{value_by}
use Rattle.plain_run.specs.Jobs.{PlainJob}
use Rattle.plain_run.proofs.text.PlainText.value_of.Goals as goal

pub address-requires : goal.address-requires
address-requires c =
    let files = c.self.inside.res.now.files in
    let plan = c.self.inside.plan.now in
    laid_target files plan.span plan c.self.invariant.job_is.plan_is c.args.target
    (subst (λ (j : PlainJob). IsTargetOf j.files c.args.target) (sym c.self.view_is) c.requires)

pub returns-in-Some : goal.returns-in-Some
returns-in-Some c =
    let files = c.self.inside.res.now.files in
    let plan = c.self.inside.plan.now in
    let within = subst (λ (j : PlainJob). IsTargetOf j.files c.args.target) (sym c.self.view_is) c.requires in
    let address : target_address files plan.span c.args.target ≡ Some c.in-Some.n =
    sym (address_is files plan.span plan c.self.invariant.job_is.plan_is c.args.target within) ∙ sym c.address.ensures ∙ c.in-Some.is in
    sym (ap (value_by files plan c.args.target) address)
    ∙ ap (λ (j : PlainJob). value_by j.files j.plan c.args.target (target_address j.files j.plan.span c.args.target)) c.self.view_is
