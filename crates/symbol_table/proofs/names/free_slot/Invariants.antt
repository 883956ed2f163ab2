use Rattle.symbol_table.specs.inside.NameIndex.{AreTaken}
use Rattle.symbol_table.proofs.names.free_slot.Given as goal

-- the first slots are taken
abbrev pub invariant-loop-i : goal.invariant-loop-i
invariant-loop-i l = AreTaken l.slots l.start l.i
