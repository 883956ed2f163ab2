-- returns-clause-lies: the section is text, of its file.
use Rattle.symbol_table.specs.Resolved.{section_id}
use Rattle.symbol_table.specs.laws.Text.{text_section_at}
use Rattle.call_sites.proofs.callees.text_section.Goals as goal

pub returns-clause-lies : goal.returns-clause-lies
returns-clause-lies c = text_section_at c.args.res.now.files c.args.number (section_id c.text_of-file.result) c.text_of-file.ensures
