-- returns: the section that a record of a set is about is one of its file.
use Rattle.std.proofs.Common.{ap, sym, ◌∙◌}
use Rattle.object_set.specs.Refusals.{set_refusal}
use Rattle.symbol_table.specs.laws.Sections.{record_about}
use Rattle.toc_groups.proofs.values.section_of.Goals as goal

pub returns-clause-about : goal.returns-clause-about
returns-clause-about c =
    record_about c.args.res.now.files c.args.id (ap set_refusal (sym c.set.ensures) ∙ c.file_count-files.ensures.whole) c.requires
