use Rattle.std.proofs.Common.{◌≡◌}
use Rattle.object_set.specs.Walks.{items_before}
use Rattle.symbol_table.specs.Text.{text_walk}
use Rattle.symbol_table.specs.inside.Text.{AreAllTextIndexes}
use Rattle.symbol_table.proofs.text.TextSections.of_files.Given as goal

-- the sections of the first files are numbered
abbrev pub invariant-loop-file : goal.invariant-loop-file
invariant-loop-file l = record {
  texts : l.items.items ≡ items_before text_walk l.set l.file;
  indexes : AreAllTextIndexes l.set l.file l.indexes.items;
}
