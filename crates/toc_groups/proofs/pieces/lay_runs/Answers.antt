-- returns-in_err: a run that passes the end of data shows that data is too big. align_up-requires: a page's size is a power of two.
-- returns-clause-runs: the runs are those of the data.
use Rattle.std.proofs.Common.{◌≡◌, ◌≤◌, ℕ, inr, refl, ap, sym, ◌∙◌, arith}
use Rattle.std.proofs.lemmas.Result.{err_from_is_err_and}
use Rattle.object_set.specs.declared.sort.Sort.TheVariants.{Zeroed, Writable}
use Rattle.toc_groups.specs.declared.extents.TheConstants.{DATA_END}
use Rattle.toc_groups.specs.Runs.{run_end}
use Rattle.toc_groups.specs.Sections.{sections_of}
use Rattle.toc_groups.specs.Data.{read_only_end, writable_end, zeroed_end}
use Rattle.toc_groups.specs.inside.Limits.{past_limit}
use Rattle.toc_groups.proofs.Laying.{within_limit}
use Rattle.toc_groups.proofs.Running.{start_is, starts_behind, in_order, refused, groups_past, runs_are}
use Rattle.toc_groups.proofs.pieces.lay_runs.Goals as goal

pub returns-in_err-read_only-clause-refusal : goal.returns-in_err-read_only-clause-refusal
returns-in_err-read_only-clause-refusal c =
    let p = err_from_is_err_and c.from_residual.result c.from_residual.ensures.1 in
    let files = c.args.set.now in
    let span = c.args.laid.now.span in
    let order = in_order files span c.requires.whole in
    rw (p.1, p.2) (inr (refused files span (read_only_end files) c.in_err-read_only.field-0.0
    (omega (arith, order.read_only, order.groups, order.writable, order.zeroed, order.commons)) c.in_err-read_only.ensures.refusal))

pub align_up-writable_start-requires-clause-power : goal.align_up-writable_start-requires-clause-power
align_up-writable_start-requires-clause-power c = (16, refl)

pub returns-in_err-groups-clause-refusal : goal.returns-in_err-groups-clause-refusal
returns-in_err-groups-clause-refusal c =
    let p = err_from_is_err_and c.from_residual-in_err-groups.result c.from_residual-in_err-groups.ensures.1 in
    let files = c.args.set.now in
    let laid = c.args.laid.now in
    let start = start_is files laid.span c.in_ok-read_only.read_only c.align_up-writable_start.result c.in_ok-read_only.ensures.end
    c.align_up-writable_start.ensures in
    rw (p.1, p.2) (groups_past files laid.span laid c.align_up-writable_start.result c.as_slice.result.now c.in_err-groups.field-0.0
    c.requires.groups start c.as_slice.ensures.value c.in_err-groups.ensures.refusal c.requires.whole)

pub returns-in_err-zeroed_start-clause-refusal : goal.returns-in_err-zeroed_start-clause-refusal
returns-in_err-zeroed_start-clause-refusal c =
    let p = err_from_is_err_and c.from_residual-in_err-zeroed_start.result c.from_residual-in_err-zeroed_start.ensures.1 in
    let files = c.args.set.now in
    let laid = c.args.laid.now in
    let order = in_order files laid.span c.requires.whole in
    let both = starts_behind files laid.span laid c.in_ok-read_only.read_only c.align_up-writable_start.result c.as_slice.result.now
    c.in_ok-groups.groups c.requires.groups c.in_ok-read_only.ensures.end c.align_up-writable_start.ensures c.as_slice.ensures.value
    c.in_ok-groups.ensures.starts in
    rw (p.1, p.2) (inr (refused files laid.span (writable_end files laid.span) c.in_err-zeroed_start.field-0.0
    (omega (arith, order.zeroed, order.commons))
    (sym (ap (λ (e : ℕ). past_limit (run_end e (sections_of files Writable))) both.1) ∙ c.in_err-zeroed_start.ensures.refusal)))

pub returns-in_err-zeroed-clause-refusal : goal.returns-in_err-zeroed-clause-refusal
returns-in_err-zeroed-clause-refusal c =
    let p = err_from_is_err_and c.from_residual-in_err-zeroed.result c.from_residual-in_err-zeroed.ensures.1 in
    let files = c.args.set.now in
    let laid = c.args.laid.now in
    let order = in_order files laid.span c.requires.whole in
    let both = starts_behind files laid.span laid c.in_ok-read_only.read_only c.align_up-writable_start.result c.as_slice.result.now
    c.in_ok-groups.groups c.requires.groups c.in_ok-read_only.ensures.end c.align_up-writable_start.ensures c.as_slice.ensures.value
    c.in_ok-groups.ensures.starts in
    let zeroed : c.in_ok-zeroed_start.zeroed_start ≡ writable_end files laid.span =
    c.in_ok-zeroed_start.ensures.end ∙ ap (λ (e : ℕ). run_end e (sections_of files Writable)) both.1 in
    rw (p.1, p.2) (inr (refused files laid.span (zeroed_end files laid.span) c.in_err-zeroed.field-0.0 order.commons
    (sym (ap (λ (e : ℕ). past_limit (run_end e (sections_of files Zeroed))) zeroed) ∙ c.in_err-zeroed.ensures.refusal)))

pub returns-clause-runs : goal.returns-clause-runs
returns-clause-runs c =
    let files = c.args.set.now in
    let laid = c.args.laid.now in
    let both = starts_behind files laid.span laid c.in_ok-read_only.read_only c.align_up-writable_start.result c.as_slice.result.now
    c.in_ok-groups.groups c.requires.groups c.in_ok-read_only.ensures.end c.align_up-writable_start.ensures c.as_slice.ensures.value
    c.in_ok-groups.ensures.starts in
    let zeroed_start : c.in_ok-zeroed_start.zeroed_start ≡ writable_end files laid.span =
    c.in_ok-zeroed_start.ensures.end ∙ ap (λ (e : ℕ). run_end e (sections_of files Writable)) both.1 in
    let zeroed : c.in_ok-zeroed.zeroed ≡ zeroed_end files laid.span =
    c.in_ok-zeroed.ensures.end ∙ ap (λ (e : ℕ). run_end e (sections_of files Zeroed)) zeroed_start in
    let zeroed_low = within_limit (run_end c.in_ok-zeroed_start.zeroed_start (sections_of files Zeroed)) c.in_ok-zeroed.ensures.refusal in
    runs_are files laid.span c.in_ok-groups.groups.starts c.in_ok-read_only.read_only c.align_up-writable_start.result
    c.in_ok-groups.groups.end c.in_ok-zeroed_start.zeroed_start c.in_ok-zeroed.zeroed c.requires.whole both.0 c.in_ok-read_only.ensures.end
    (start_is files laid.span c.in_ok-read_only.read_only c.align_up-writable_start.result c.in_ok-read_only.ensures.end
    c.align_up-writable_start.ensures) both.1 zeroed_start zeroed
    (let low : c.in_ok-zeroed.zeroed ≤ DATA_END = omega (arith, zeroed_low, c.in_ok-zeroed.ensures.end) in low)
