-- returns: what a record is about is a kept section of its file.
use Rattle.std.proofs.Common.{◌≡◌, None, sym, ap, ◌∙◌}
use Rattle.object_set.specs.Refusals.{set_refusal}
use Rattle.symbol_table.specs.laws.Sections.{record_about}
use Rattle.toc_rewrite.proofs.laid.Laid.section.Goals as goal

pub returns-clause-about : goal.returns-clause-about
returns-clause-about c =
    let files = c.args.self.now.files in
    let whole : set_refusal files ≡ None =
    ap set_refusal (sym (c.set.ensures ∙ c.resolved.ensures.files)) ∙ c.file_count-files.ensures.whole in
    record_about files c.args.id whole c.requires
