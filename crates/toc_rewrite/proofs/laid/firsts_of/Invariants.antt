use Rattle.std.proofs.Common.{◌≡◌, ◌≤◌, ◌*◌, ◌^◌, ℕ, map, slice_index}
use Rattle.std.specs.List.{range_with_len}
use Rattle.object_set.specs.Walks.{section_walk, index_of}
use Rattle.toc_rewrite.proofs.laid.firsts_of.Given as goal

-- the sections of the first files are counted
abbrev pub invariant-loop-file : goal.invariant-loop-file
invariant-loop-file l = record {
  items : l.items.items ≡ map (λ file. index_of section_walk l.set file 0) (range_with_len 0 l.file);
  count : l.count ≡ index_of section_walk l.set l.file 0;
  few : l.count ≤ l.file * 2 ^ 32;
  low : (k : ℕ) → slice_index l.items.items k ≤ l.file * 2 ^ 32;
}
