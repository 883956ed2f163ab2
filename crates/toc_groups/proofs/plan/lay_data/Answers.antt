-- bases_of-requires: the group of each file has a start, and starts are low. invariant_of-result and returns-clause-plan: the plan is that
-- of the files, and can be read.
use Rattle.toc_groups.specs.Data.{data_refusal}
use Rattle.std.proofs.Common.{None, ◌≡◌, ◌<◌, ◌≤◌, ℕ, List, map, length, get_or, refl, ap, sym, subst, ◌∙◌, arith}
use Rattle.object_set.specs.Refusals.{set_refusal}
use Rattle.toc_groups.specs.inside.Laid.{base_at}
use Rattle.toc_groups.proofs.Planning.{laid_out, known_start, starts_are_low, safe, is_plan}
use Rattle.toc_groups.proofs.plan.lay_data.Goals as goal

pub bases_of-requires-clause-known : goal.bases_of-requires-clause-known
bases_of-requires-clause-known c =
    let files = c.args.res.now.files in
    let span = c.args.toc_span in
    let laid = c.in_ok-groups.groups in
    let is = laid_out files c.set-set.result.now span c.from.result laid c.in_ok-pieces.pieces c.in_ok-groups.ensures c.set-set.ensures
    c.from.ensures c.in_ok-pieces.ensures.pieces in
    let numbers = c.as_slice.ensures.value in
    let starts = c.as_slice-2.ensures.value in
    subst (λ (l : List ℕ). (file : ℕ) → file < length l → get_or l file 0 < length c.as_slice-2.result.now) (sym numbers)
    (subst (λ (l : List ℕ). (file : ℕ) → file < length laid.numbers.items → get_or laid.numbers.items file 0 < length l) (sym starts)
    (known_start files span laid c.in_ok-pieces.pieces.starts.items is.groups is.pieces_are.starts))

pub bases_of-requires-clause-low : goal.bases_of-requires-clause-low
bases_of-requires-clause-low c =
    let files = c.args.res.now.files in
    let span = c.args.toc_span in
    let laid = c.in_ok-groups.groups in
    let is = laid_out files c.set-set.result.now span c.from.result laid c.in_ok-pieces.pieces c.in_ok-groups.ensures c.set-set.ensures
    c.from.ensures c.in_ok-pieces.ensures.pieces in
    λ g.
    let low = starts_are_low files span c.in_ok-pieces.pieces.starts.items is.pieces_are.starts is.pieces_are.fits.groups g in
    let read = ap (λ (l : List ℕ). get_or l g 0) c.as_slice-2.ensures.value in
    omega (arith, low, read)

pub align_up-text_start-requires-clause-power : goal.align_up-text_start-requires-clause-power
align_up-text_start-requires-clause-power c = (16, refl)

pub invariant_of-result : goal.invariant_of-result
invariant_of-result c =
    let files = c.args.res.now.files in
    let span = c.args.toc_span in
    let laid = c.in_ok-groups.groups in
    let is = laid_out files c.set-set.result.now span c.from.result laid c.in_ok-pieces.pieces c.in_ok-groups.ensures c.set-set.ensures
    c.from.ensures c.in_ok-pieces.ensures.pieces in
    let whole = ap set_refusal (sym c.set-set.ensures) ∙ c.file_count-files.ensures.whole in
    let few : length files ≤ 4096 =
    omega (
      arith,
      ap (λ (f : List (List ℕ)). length f) c.set-set.ensures,
      c.file_count-files.ensures.count,
      c.file_count-files.ensures.few,
    ) in
    safe files span laid c.in_ok-pieces.pieces.starts.items whole few is.groups is.pieces_are.starts is.pieces_are.fits.groups

pub returns-clause-plan : goal.returns-clause-plan
returns-clause-plan c =
    let files = c.args.res.now.files in
    let span = c.args.toc_span in
    let laid = c.in_ok-groups.groups in
    let is = laid_out files c.set-set.result.now span c.from.result laid c.in_ok-pieces.pieces c.in_ok-groups.ensures c.set-set.ensures
    c.from.ensures c.in_ok-pieces.ensures.pieces in
    let bases : c.in_ok-bases.bases.items ≡ map (base_at c.in_ok-pieces.pieces.starts.items) laid.numbers.items =
    c.in_ok-bases.ensures ∙ ap (λ (l : List ℕ). map (base_at l) c.as_slice.result.now) c.as_slice-2.ensures.value
    ∙ ap (map (base_at c.in_ok-pieces.pieces.starts.items)) c.as_slice.ensures.value in
    is_plan files span laid c.in_ok-pieces.pieces c.in_ok-bases.bases.items c.data_end.result c.align_up-text_start.result is.groups
    is.pieces_are
    bases c.data_end.ensures c.align_up-text_start.ensures
    (subst (λ (s : ℕ). data_refusal files s ≡ None) is.groups.span_is c.in_ok-pieces.ensures.refusal)
