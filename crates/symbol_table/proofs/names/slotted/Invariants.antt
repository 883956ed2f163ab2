use Rattle.symbol_table.specs.inside.Keys.{named}
use Rattle.symbol_table.specs.inside.NameIndex.{ArePassed}
use Rattle.symbol_table.proofs.names.slotted.Given as goal

-- the first slots hold other numbers
abbrev pub invariant-loop-i : goal.invariant-loop-i
invariant-loop-i l = ArePassed (named l.names) l.slots l.start l.name l.i
