use Rattle.std.proofs.Common.{◌≡◌, length}
use Rattle.ppc_archive.specs.inside.Pools.{HasRootsBelow, pool_of}
use Rattle.ppc_archive.proofs.choice.roots.Given as goal

-- what the entry and the first objects need is chosen, and no more
abbrev pub invariant-loop-object : goal.invariant-loop-object
invariant-loop-object l = record {
  total : l.choice.total ≡ length l.files.candidates.items;
  roots : HasRootsBelow (pool_of l.files l.entry) l.choice.order l.object-index;
}
