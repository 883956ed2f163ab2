use Rattle.std.proofs.Common.{◌≡◌, flat_map}
use Rattle.object_set.specs.Walks.{items_before, record_walk}
use Rattle.toc_rewrite.specs.inside.Uses.{use_of}
use Rattle.toc_rewrite.specs.inside.Slots.{candidate_of}
use Rattle.toc_rewrite.proofs.laid.Laid.found.Given as goal

-- what the records of the first files are
abbrev pub invariant-loop-file : goal.invariant-loop-file
invariant-loop-file l = record {
  uses : l.found.uses.items ≡ flat_map (use_of l.self) (items_before record_walk l.self.files l.file);
  slots : l.found.slots.items ≡ flat_map (candidate_of l.self) (items_before record_walk l.self.files l.file);
}
