use Rattle.std.proofs.Common.{arith}
use Rattle.std.proofs.lemmas.List.Sorted.{IsNonDecreasingBy-from_all_adjacent}
use Rattle.symbol_table.specs.inside.Fields.{rank_of}
use Rattle.symbol_table.proofs.ordered_fields.are_sorted.Goals as goal

-- no neighbours are out of order
pub returns : goal.returns
returns c = λ _.
    IsNonDecreasingBy-from_all_adjacent rank_of c.args.fields.now (λ k d within. c.loop-i.invariant k d (omega arith))
