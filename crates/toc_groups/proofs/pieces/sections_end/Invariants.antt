use Rattle.std.proofs.Common.{◌≡◌, ◌≤◌}
use Rattle.object_set.specs.Walks.{items_before}
use Rattle.toc_groups.specs.declared.extents.TheConstants.{DATA_END}
use Rattle.toc_groups.specs.Runs.{run_end}
use Rattle.toc_groups.specs.Sections.{sort_walk}
use Rattle.toc_groups.proofs.pieces.sections_end.Given as goal

-- the sections of the first files are laid out
abbrev pub invariant-loop-file : goal.invariant-loop-file
invariant-loop-file l = record {
  low : l.end ≤ DATA_END;
  end : l.end ≡ run_end l.start (items_before (sort_walk l.sort) l.set l.file);
}
