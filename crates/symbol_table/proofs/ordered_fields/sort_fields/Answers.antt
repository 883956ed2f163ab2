use Rattle.std.proofs.Common.{rules}
use Rattle.std.proofs.lemmas.List.Sorted.{IsNonDecreasingBy-from_sort_by}
use Rattle.symbol_table.specs.inside.Fields.{rank_of}
use Rattle.symbol_table.proofs.ordered_fields.sort_fields.Goals as goal

-- a sort by the order of the fields' places puts them in order
pub returns-then-not-are_sorted-clause-sorted : goal.returns-then-not-are_sorted-clause-sorted
returns-then-not-are_sorted-clause-sorted c =
    IsNonDecreasingBy-from_sort_by rank_of c.sort_unstable_by.new.self.items c.sort_unstable_by.ensures.sorted
    (λ a r f k. search rules)
