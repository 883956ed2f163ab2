-- All files and symbol numbers are all symbols.
use Rattle.std.proofs.Common.{ap, ◌∙◌}
use Rattle.std.specs.Prelude.{map}
use Rattle.object_set.specs.inside.Cursor.{symbol_id}
use Rattle.object_set.proofs.Cursors.{all_symbols}
use Rattle.object_set.proofs.set.ObjectSet.symbols.Goals as goal

pub returns : goal.returns
returns c = ap (map symbol_id) c.new.ensures ∙ all_symbols c.args.self.now
