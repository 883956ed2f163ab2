use Rattle.std.proofs.Common.{◌≡◌}
use Rattle.object_set.specs.Walks.{items_before}
use Rattle.symbol_table.specs.Externals.{external_walk}
use Rattle.symbol_table.specs.Candidates.{names_seen}
use Rattle.symbol_table.specs.inside.Names.{AreAllNameNumbers}
use Rattle.symbol_table.proofs.table.name_table.Given as goal

-- the symbols of the first files are in the table
abbrev pub invariant-loop-file : goal.invariant-loop-file
invariant-loop-file l = record {
  seen : l.table ≡ names_seen (items_before external_walk l.set l.file);
  numbers : AreAllNameNumbers l.table.names l.set l.file l.numbers.items;
}
