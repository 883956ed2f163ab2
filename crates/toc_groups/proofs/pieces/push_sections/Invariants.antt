use Rattle.std.proofs.Common.{◌≡◌, ◌++◌}
use Rattle.object_set.specs.Files.{file_at}
use Rattle.object_set.specs.Walks.{items_in}
use Rattle.toc_groups.specs.Data.{address_walk}
use Rattle.toc_groups.specs.inside.Laid.{AreEndsAt}
use Rattle.toc_groups.proofs.pieces.push_sections.Given as goal

-- the first sections of the file have their addresses
abbrev pub invariant-loop-section : goal.invariant-loop-section
invariant-loop-section l = record {
  pieces : l.pieces.items ≡ l.fn.pieces.items ++ items_in (address_walk l.set l.laid.span) l.file (file_at l.set l.file) l.section;
  ends : AreEndsAt l.set l.laid.span l.file l.section l.ends;
}
