-- has_between-requires: the uses are in order.
use Rattle.std.proofs.Common.{sym, subst}
use Rattle.std.specs.List.Sorted.{IsNonDecreasingBy}
use Rattle.toc_rewrite.specs.inside.Uses.{rank}
use Rattle.toc_rewrite.proofs.uses.SlotUses.has_above.Goals as goal

pub has_between-requires-clause-sorted : goal.has_between-requires-clause-sorted
has_between-requires-clause-sorted c = subst (IsNonDecreasingBy rank) (sym c.as_slice.ensures.value) c.self.invariant
