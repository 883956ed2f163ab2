-- All are marked.
use Rattle.std.proofs.Common.{◌≡◌, None, ap, sym, ◌∙◌}
use Rattle.object_set.specs.Refusals.{set_refusal}
use Rattle.plain_run.proofs.ToldMarks.{all_told}
use Rattle.plain_run.proofs.marks.marked_sections.Goals as goal

pub returns : goal.returns
returns c =
    let files = c.args.res.now.files in
    let whole : set_refusal files ≡ None = ap set_refusal (sym c.set.ensures) ∙ c.file_count-files.ensures.whole in
    all_told files whole c.args.sites.now c.args.pairs.now c.requires c.mark_pairs.new.sections.items c.mark_pairs.ensures.texts
    c.mark_pairs.ensures.marks
