use Rattle.std.proofs.Common.{◌≡◌, map}
use Rattle.std.specs.List.{range_with_len}
use Rattle.object_set.specs.Walks.{section_walk, items_before, index_of}
use Rattle.toc_groups.specs.Data.{address_walk}
use Rattle.toc_groups.specs.inside.Laid.{AreEndsBefore}
use Rattle.toc_groups.proofs.pieces.section_addresses.Given as goal

-- the sections of the first files have their addresses
abbrev pub invariant-loop-file : goal.invariant-loop-file
invariant-loop-file l = record {
  pieces : l.pieces.items ≡ items_before (address_walk l.set l.laid.span) l.set l.file;
  firsts : l.firsts.items ≡ map (λ file. index_of section_walk l.set file 0) (range_with_len 0 l.file);
  ends : AreEndsBefore l.set l.laid.span l.file l.ends;
}
