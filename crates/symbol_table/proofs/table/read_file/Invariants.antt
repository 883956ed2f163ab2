use Rattle.object_set.specs.Files.{file_at}
use Rattle.object_set.specs.Walks.{items_in}
use Rattle.symbol_table.specs.Externals.{external_walk}
use Rattle.symbol_table.specs.inside.Names.{IsPaired, SeesMore, KeepsNumbers, AreNameNumbers, AreNamePlaces}
use Rattle.symbol_table.proofs.table.read_file.Given as goal

-- the first symbols of the file are in the table
abbrev pub invariant-loop-j : goal.invariant-loop-j
invariant-loop-j l = record {
  seen : SeesMore l.fn.table l.table (items_in external_walk l.file (file_at l.set l.file) l.j);
  keeps : KeepsNumbers l.fn.table.names l.table.names;
  numbers : AreNameNumbers l.table.names (file_at l.set l.file) l.j l.items.items;
  paired : IsPaired l.table;
  places : AreNamePlaces l.table.names (file_at l.set l.file) l.places;
}
