-- A section that is a `.toc` is fit and small, and comes to the ends.
use Rattle.std.proofs.Common.{◌≡◌, List, [], ◌∷◌, ◌++◌, ap, sym, subst, ◌∙◌, arith}
use Rattle.object_set.specs.declared.sort.Sort.TheVariants.{Toc}
use Rattle.object_set.specs.Files.{file_at}
use Rattle.toc_groups.specs.declared.extents.Extent.{Extent}
use Rattle.toc_groups.specs.Runs.{IsFitExtent}
use Rattle.toc_groups.specs.Sections.{section_extent, extent_at}
use Rattle.toc_groups.specs.inside.Ends.{AreEnds}
use Rattle.toc_groups.proofs.Bounds.{small_toc}
use Rattle.toc_groups.proofs.Adding.{one_toc, fit_toc}
use Rattle.toc_groups.proofs.groups.add_toc.Goals as goal

pub add-requires-clause-fit : goal.add-requires-clause-fit
add-requires-clause-fit c =
    let small = small_toc c.args.set.now c.args.file c.args.section c.requires.whole c.requires.file c.requires.section
    (sym c.is_of_sort.ensures ∙ c.if-is_of_sort.true) in
    subst IsFitExtent (sym c.section_extent.ensures) (fit_toc _ small)

pub add-requires-clause-size : goal.add-requires-clause-size
add-requires-clause-size c =
    let small = small_toc c.args.set.now c.args.file c.args.section c.requires.whole c.requires.file c.requires.section
    (sym c.is_of_sort.ensures ∙ c.if-is_of_sort.true) in
    omega (arith, small.size, ap (λ (e : Extent). e.size) c.section_extent.ensures)

pub returns-then-is_of_sort : goal.returns-then-is_of_sort
returns-then-is_of_sort c = λ sections ends.
    let b = file_at c.args.set.now c.args.file in
    let taken : extent_at Toc c.args.file b c.args.section ≡ section_extent b c.args.section ∷ [] =
    one_toc c.args.file b c.args.section (sym c.is_of_sort.ensures ∙ c.if-is_of_sort.true) in
    subst (λ (l : List Extent). AreEnds (sections ++ l) c.add.new.self) (sym taken)
    (subst (λ (e : Extent). AreEnds (sections ++ e ∷ []) c.add.new.self) c.section_extent.ensures (c.add.ensures sections ends))
