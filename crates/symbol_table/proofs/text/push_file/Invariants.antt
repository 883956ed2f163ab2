use Rattle.std.proofs.Common.{◌≡◌, ◌++◌}
use Rattle.object_set.specs.Files.{file_at}
use Rattle.object_set.specs.Walks.{items_before, items_in}
use Rattle.symbol_table.specs.Text.{text_walk}
use Rattle.symbol_table.specs.inside.Text.{AreTextIndexes}
use Rattle.symbol_table.proofs.text.push_file.Given as goal

-- the first sections of the file are numbered
abbrev pub invariant-loop-section : goal.invariant-loop-section
invariant-loop-section l = record {
  texts : l.texts.items ≡ items_before text_walk l.set l.file ++ items_in text_walk l.file (file_at l.set l.file) l.section;
  indexes : AreTextIndexes l.set l.file l.section l.items.items;
}
