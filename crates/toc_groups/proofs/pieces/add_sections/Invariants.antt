use Rattle.std.proofs.Common.{◌≡◌, ◌≤◌}
use Rattle.object_set.specs.Files.{file_at}
use Rattle.object_set.specs.Walks.{items_in}
use Rattle.toc_groups.specs.declared.extents.TheConstants.{DATA_END}
use Rattle.toc_groups.specs.Runs.{run_end}
use Rattle.toc_groups.specs.Sections.{sort_walk}
use Rattle.toc_groups.proofs.pieces.add_sections.Given as goal

-- the first sections of the file are laid out
abbrev pub invariant-loop-section : goal.invariant-loop-section
invariant-loop-section l = record {
  low : l.end ≤ DATA_END;
  end : l.end ≡ run_end l.fn.end (items_in (sort_walk l.sort) l.file (file_at l.set l.file) l.section);
}
