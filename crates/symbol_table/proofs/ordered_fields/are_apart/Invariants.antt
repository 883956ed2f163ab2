use Rattle.std.specs.List.{AllAdjacentBelow}
use Rattle.symbol_table.specs.inside.Fields.{EndsBefore}
use Rattle.symbol_table.proofs.ordered_fields.are_apart.Given as goal

-- each of the fields up to this one ends before the next
abbrev pub invariant-loop-i : goal.invariant-loop-i
invariant-loop-i l = AllAdjacentBelow EndsBefore l.fields l.i
