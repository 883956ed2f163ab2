-- returns: a sort by the order of uses puts them in order.
use Rattle.std.proofs.Common.{rules}
use Rattle.std.proofs.lemmas.List.Sorted.{IsNonDecreasingBy-from_sort_by}
use Rattle.toc_rewrite.specs.inside.Uses.{rank}
use Rattle.toc_rewrite.proofs.uses.sort_uses.Goals as goal

pub returns-clause-sorted : goal.returns-clause-sorted
returns-clause-sorted c =
    IsNonDecreasingBy-from_sort_by rank c.sort_unstable_by.new.self.items c.sort_unstable_by.ensures.sorted (λ a r f k. search rules)
