use Rattle.std.proofs.Common.{◌≤◌}
use Rattle.std.specs.List.{AllAdjacentBelow}
use Rattle.symbol_table.specs.inside.Fields.{rank_of}
use Rattle.symbol_table.proofs.ordered_fields.are_sorted.Given as goal

-- the fields up to this one are in order
abbrev pub invariant-loop-i : goal.invariant-loop-i
invariant-loop-i l = AllAdjacentBelow (λ f g. rank_of f ≤ rank_of g) l.fields l.i
