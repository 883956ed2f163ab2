use Rattle.std.proofs.Common.{rules}
use Rattle.std.proofs.lemmas.List.Sorted.{IsNonDecreasingBy-from_sort_by}
use Rattle.pcrel_rewrite.specs.inside.Order.{head_rank}
use Rattle.pcrel_rewrite.proofs.text_pairs.sort_heads.Goals as goal

-- a sort by the order of the heads' places puts them in order
pub returns-clause-sorted : goal.returns-clause-sorted
returns-clause-sorted c =
    IsNonDecreasingBy-from_sort_by head_rank c.sort_unstable_by.new.self.items c.sort_unstable_by.ensures.sorted (λ a r f k. search rules)
