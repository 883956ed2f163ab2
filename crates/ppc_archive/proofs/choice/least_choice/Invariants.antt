use Rattle.std.proofs.Common.{◌≡◌, ◌-◌, length}
use Rattle.ppc_archive.specs.inside.Pools.{HasFirst, pool_of}
use Rattle.ppc_archive.proofs.choice.least_choice.Given as goal

-- what is needed so far is chosen
abbrev pub invariant-loop-next : goal.invariant-loop-next
invariant-loop-next l = record {
  total : l.choice.total ≡ length l.files.candidates.items;
  first : HasFirst (pool_of l.files l.entry) l.choice.order l.next;
}

abbrev pub decreases-loop-next : goal.decreases-loop-next
decreases-loop-next l = l.choice.total - l.next
