-- add_toc-requires-clause-low: the ends are low so far. loop-section-preserved: one section more. returns: all sections.
use Rattle.std.proofs.Common.{◌≡◌, ℕ, ◌++◌, ap, subst, ◌∙◌, arith}
use Rattle.elf64_records.specs.FileHeader.{e_shnum}
use Rattle.object_set.specs.declared.sort.Sort.TheVariants.{Toc}
use Rattle.object_set.specs.Files.{file_at}
use Rattle.object_set.specs.Walks.{items_in}
use Rattle.toc_groups.specs.Sections.{sort_walk}
use Rattle.toc_groups.specs.Groups.{tocs_of}
use Rattle.toc_groups.specs.inside.Ends.{AreEnds}
use Rattle.toc_groups.proofs.Adding.{next_toc, ends_low}
use Rattle.toc_groups.proofs.groups.add_tocs.Goals as goal

pub add_toc-requires-clause-low : goal.add_toc-requires-clause-low
add_toc-requires-clause-low c =
    let files = c.args.set.now in
    let before = c.requires.ends in
    let count = c.section_count-section-end.ensures.count ∙ ap e_shnum c.view.ensures in
    ends_low files before.first before.count c.args.file c.loop-section.section c.loop-section.ends c.requires.whole before.last
    c.requires.file c.requires.few (omega (arith, count, c.loop-section.auto.section-end))
    (c.loop-section.invariant (tocs_of files before.first before.count) before.are)

pub loop-section-preserved : goal.loop-section-preserved
loop-section-preserved c = λ sections ends.
    let files = c.args.set.now in
    let i = c.loop-section.section in
    next_toc files c.args.file i sections c.add_toc.new.ends
    (c.add_toc.ensures (sections ++ items_in (sort_walk Toc) c.args.file (file_at files c.args.file) i)
    (c.loop-section.invariant sections ends))

pub returns : goal.returns
returns c = λ sections ends.
    let b = file_at c.args.set.now c.args.file in
    let count = c.section_count-section-end.ensures.count ∙ ap e_shnum c.view.ensures in
    let all : c.loop-section.section ≡ e_shnum b =
    omega (arith, count, c.loop-section.auto.section-end, c.loop-section-test.false) in
    subst (λ (n : ℕ). AreEnds (sections ++ items_in (sort_walk Toc) c.args.file b n) c.loop-section.ends) all
    (c.loop-section.invariant sections ends)
