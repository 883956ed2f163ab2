-- returns: a record that isn't refused has a kind.
use Rattle.std.proofs.Common.{None, ap, ◌∙◌, sym}
use Rattle.symbol_table.specs.Fields.{kind_numbered}
use Rattle.toc_rewrite.proofs.SoundRecords.{record_kind}
use Rattle.toc_rewrite.proofs.laid.Laid.kind.Goals as goal

pub returns-in-None : goal.returns-in-None
returns-in-None c =
    let files = c.args.self.now.files in
    let none = ap kind_numbered (sym c.facts.ensures.kind) ∙ sym c.kind_numbered.ensures ∙ c.in-None.is in
    let some = record_kind files c.args.id c.resolved-resolved.ensures.whole c.requires None none in
    cc
