use Rattle.std.proofs.Common.{List, ℕ, sym, ap, ◌∙◌, subst}
use Rattle.object_set.specs.Files.{file_at}
use Rattle.object_set.specs.Walks.{IsRecord}
use Rattle.symbol_table.specs.inside.Fields.{FileOf}
use Rattle.symbol_table.specs.laws.Sections.{IsAbout, record_about}
use Rattle.symbol_table.proofs.records.FileRecords.section.Goals as goal

-- the section that a record is about is one of its file
pub returns-clause-about : goal.returns-clause-about
returns-clause-about c =
    let same = sym c.self.invariant.same ∙ ap (λ (f : FileOf). f.files) c.self.view_is in
    let is = subst (λ (s : List (List ℕ)). IsRecord s c.args.id) (sym same) c.requires in
    subst (λ (s : List (List ℕ)). IsAbout (file_at s c.args.id.file) c.args.id.section) same
    (record_about c.self.inside.resolved.now.files c.args.id c.self.invariant.whole is)
