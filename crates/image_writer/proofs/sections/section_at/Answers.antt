use Rattle.std.proofs.Common.{sym}
use Rattle.std.proofs.lemmas.Option.{get_or_from_slice_get}
use Rattle.symbol_table.specs.Text.{text_sections}
use Rattle.symbol_table.specs.Resolved.{section_id}
use Rattle.symbol_table.specs.laws.Text.{text_section_at}
use Rattle.image_writer.specs.Text.{no_section}
use Rattle.image_writer.proofs.sections.section_at.Goals as goal

-- what stands in the list there
pub returns-clause-id : goal.returns-clause-id
returns-clause-id c =
    sym (get_or_from_slice_get (text_sections c.args.res.now.files) c.args.s
    (section_id c.text_of-file.result) no_section c.text_of-file.ensures)

-- is a text section
pub returns-clause-is : goal.returns-clause-is
returns-clause-is c = text_section_at c.args.res.now.files c.args.s (section_id c.text_of-file.result) c.text_of-file.ensures
