-- The section has another mark.
use Rattle.std.proofs.Common.{◌≡◌, slice_set, sym, ap, ◌∙◌, subst}
use Rattle.std.proofs.lemmas.Option.{get_or_from_slice_get}
use Rattle.plain_run.specs.inside.Marks.{MarkedSection, IsMarkedAs, with_mark}
use Rattle.plain_run.proofs.WrittenMarks.{marked_as, mark_there}
use Rattle.plain_run.proofs.marks.set_mark.Goals as goal

pub returns : goal.returns
returns c =
    let items = c.args.sections.now.items in
    let k = c.args.number in
    let there = mark_there items k c.args.word c.requires.0 c.requires.1 in
    let same : c.index_mut.result.now ≡ there.section =
    c.index_mut.ensures.value ∙ get_or_from_slice_get items k there.section c.index_mut.result.now there.found in
    let new : c.set.new.self ≡ with_mark there.section c.args.word c.args.mark =
    c.set.ensures ∙ ap (λ (m : MarkedSection). with_mark m c.args.word c.args.mark) same in
    subst (λ (m : MarkedSection). IsMarkedAs items (slice_set items k m) k c.args.word c.args.mark) (sym new)
    (marked_as items k c.args.word there.section c.args.mark there.found there.within)
