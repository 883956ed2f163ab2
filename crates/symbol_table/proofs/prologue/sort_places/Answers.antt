use Rattle.std.proofs.Common.{rules}
use Rattle.std.proofs.lemmas.List.Sorted.{IsNonDecreasingBy-from_sort_by}
use Rattle.symbol_table.specs.inside.Places.{rank}
use Rattle.symbol_table.proofs.prologue.sort_places.Goals as goal

-- a sort by the order of places puts them in order
pub returns-clause-sorted : goal.returns-clause-sorted
returns-clause-sorted c =
    IsNonDecreasingBy-from_sort_by rank c.sort_unstable_by.new.self.items c.sort_unstable_by.ensures.sorted (λ a r f k. search rules)
