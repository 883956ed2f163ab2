use Rattle.std.proofs.Common.{ℕ, List, length, ap, ◌∙◌}
use Rattle.std.proofs.lemmas.List.FromFn.{length-map-range_with_len}
use Rattle.std.proofs.lemmas.Result.{err_from_is_err_and}
use Rattle.toc_groups.specs.Groups.{group_number}
use Rattle.image_writer.specs.LaidText.{layout_of}
use Rattle.link_engine.specs.Options.{LinkOptions}
use Rattle.link_engine.proofs.LaidOut.{laid_job, overflows}
use Rattle.link_engine.proofs.whole_job.whole_job.Goals as goal

-- the plan has a group for each file
pub sites-requires-clause-groups : goal.sites-requires-clause-groups
sites-requires-clause-groups g c =
    let files = c.args.res.now.files in
    ap (λ (l : List ℕ). length l) (c.groups.ensures ∙ c.in_ok-plan.ensures.plan.groups)
    ∙ length-map-range_with_len (group_number files c.options.inside.toc_span) 0 (length files)

-- a field that overflows
pub returns-in_err-loaded-clause-refused : goal.returns-in_err-loaded-clause-refused
returns-in_err-loaded-clause-refused g c =
    let p = err_from_is_err_and c.from_residual-in_err-loaded.result c.from_residual-in_err-loaded.ensures.1 in
    let settled = c.in_ok-settled.settled in
    let text = layout_of settled.keyed settled.far settled.places in
    let job = laid_job c.args.res.now c.args.options.now c.options.inside.branch_span c.options.inside.toc_span c.in_ok-plan.plan
    c.groups.result.now c.in_ok-calls.calls c.as_slice.result.now text c.in_ok-pairs.pairs
    (ap (λ (o : LinkOptions). o.branch_span) c.options.view_is) (ap (λ (o : LinkOptions). o.toc_span) c.options.view_is)
    c.requires.resolved c.in_ok-plan.ensures.plan c.groups.ensures
    c.in_ok-calls.ensures.refusal c.in_ok-calls.ensures.sites c.as_slice.ensures c.in_ok-settled.ensures.laid c.in_ok-pairs.ensures in
    rw (p.1, p.2) (overflows c.args.res.now.files c.args.options.now c.in_ok-plan.plan c.as_slice.result.now text c.in_ok-pairs.pairs
    job c.in_err-loaded.field-0.0 c.in_err-loaded.ensures.refusal)
