-- place-requires-clause-fit: the section is kept.
use Rattle.std.proofs.Common.{sym, subst, ◌∙◌}
use Rattle.object_set.specs.Files.{file_at}
use Rattle.object_set.specs.Sections.{sort_of}
use Rattle.toc_groups.specs.Runs.{IsFitExtent}
use Rattle.toc_groups.proofs.Laying.{fit_section, sort_is}
use Rattle.toc_groups.proofs.pieces.add_section.Goals as goal

pub place-requires-clause-fit : goal.place-requires-clause-fit
place-requires-clause-fit c =
    let files = c.args.set.now in
    subst IsFitExtent (sym c.section_extent.ensures)
    (fit_section files c.args.file c.args.section c.args.sort c.requires.whole c.requires.file c.requires.section c.requires.kept
    (sort_is (sort_of (file_at files c.args.file) c.args.section) c.args.sort (sym c.is_of_sort.ensures ∙ c.if-is_of_sort.true)))
