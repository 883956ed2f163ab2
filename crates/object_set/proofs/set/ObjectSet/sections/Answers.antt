-- All files and section numbers are all sections.
use Rattle.std.proofs.Common.{ap, ◌∙◌}
use Rattle.std.specs.Prelude.{map}
use Rattle.object_set.specs.inside.Cursor.{section_id}
use Rattle.object_set.proofs.Cursors.{all_sections}
use Rattle.object_set.proofs.set.ObjectSet.sections.Goals as goal

pub returns : goal.returns
returns c = ap (map section_id) c.new.ensures ∙ all_sections c.args.self.now
