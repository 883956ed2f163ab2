use Rattle.std.proofs.Common.{◌++◌, List}
use Rattle.object_set.specs.declared.sort.Sort.TheVariants.{Toc}
use Rattle.object_set.specs.Files.{file_at}
use Rattle.object_set.specs.Walks.{items_in}
use Rattle.toc_groups.specs.declared.extents.Extent.{Extent}
use Rattle.toc_groups.specs.Sections.{sort_walk}
use Rattle.toc_groups.specs.inside.Ends.{AreEnds}
use Rattle.toc_groups.proofs.groups.add_tocs.Given as goal

-- the first sections of the file are taken in
abbrev pub invariant-loop-section : goal.invariant-loop-section
invariant-loop-section l =
    (sections : List Extent) → AreEnds sections l.fn.ends →
    AreEnds (sections ++ items_in (sort_walk Toc) l.file (file_at l.set l.file) l.section) l.ends
