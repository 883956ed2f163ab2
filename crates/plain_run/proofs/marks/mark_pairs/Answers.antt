-- Each pair is recognised, so its access stands on a word, and one access more is marked.
use Rattle.std.proofs.Common.{◌≡◌, ◌<◌, ℕ, None, Some, length, List, slice_get, sym, ap, ◌∙◌}
use Rattle.std.specs.List.{slice_index_or}
use Rattle.std.proofs.lemmas.Option.{slice_get-get_or}
use Rattle.object_set.specs.Refusals.{set_refusal}
use Rattle.pcrel_rewrite.specs.declared.text_pairs.TextPair.{TextPair}
use Rattle.plain_run.proofs.PairMarks.{access_of, get_held}
use Rattle.plain_run.proofs.Marking.{access_has_mark, access_marked}
use Rattle.plain_run.proofs.marks.mark_pairs.Goals as goal

pair_found : (pairs items : List TextPair) (i : ℕ) → items ≡ pairs → i < length items →
    slice_get pairs i ≡ Some (slice_index_or items i (record { section = 0; head = 0; tail = 0 }))
pair_found pairs items i are within =
    ap (λ (l : List TextPair). slice_get l i) (sym are) ∙ slice_get-get_or items i (record { section = 0; head = 0; tail = 0 }) within

pub distance-requires : goal.distance-requires
distance-requires c =
    let pairs = c.args.pairs.now in
    let i = c.loop-pair.pair-index in
    let items = c.as_slice-pair-items.result.now in
    let found = pair_found pairs items i c.as_slice-pair-items.ensures c.loop-pair-test.true in
    let pair = slice_index_or items i (record { section = 0; head = 0; tail = 0 }) in
    record { near = (c.requires.job.pairs_are.each pair (get_held pairs i pair found)).is.words.near }

pub set_mark-requires : goal.set_mark-requires
set_mark-requires c =
    let files = c.args.res.now.files in
    let none = c.requires.job.records in
    let whole : set_refusal files ≡ None = ap set_refusal (sym c.set.ensures) ∙ c.file_count-files.ensures.whole in
    let pairs = c.args.pairs.now in
    let i = c.loop-pair.pair-index in
    let items = c.as_slice-pair-items.result.now in
    let found = pair_found pairs items i c.as_slice-pair-items.ensures c.loop-pair-test.true in
    let pair = slice_index_or items i (record { section = 0; head = 0; tail = 0 }) in
    access_has_mark files whole none c.loop-pair.sections.items c.loop-pair.invariant.texts pair
    (access_of files whole none pair (c.requires.job.pairs_are.each pair (get_held pairs i pair found)))

pub loop-pair-preserved : goal.loop-pair-preserved
loop-pair-preserved c =
    let files = c.args.res.now.files in
    let none = c.requires.job.records in
    let whole : set_refusal files ≡ None = ap set_refusal (sym c.set.ensures) ∙ c.file_count-files.ensures.whole in
    let pairs = c.args.pairs.now in
    let i = c.loop-pair.pair-index in
    let items = c.as_slice-pair-items.result.now in
    let found = pair_found pairs items i c.as_slice-pair-items.ensures c.loop-pair-test.true in
    let pair = slice_index_or items i (record { section = 0; head = 0; tail = 0 }) in
    record {
      texts = c.set_mark.ensures.shapes ∙ c.loop-pair.invariant.texts;
      marks = access_marked files whole none pairs (length c.args.sites.now) i c.distance.result pair found
          (access_of files whole none pair (c.requires.job.pairs_are.each pair (get_held pairs i pair found))) c.distance.ensures
          c.loop-pair.sections.items c.set_mark.new.sections.items c.set_mark.ensures c.loop-pair.invariant.marks;
    }
