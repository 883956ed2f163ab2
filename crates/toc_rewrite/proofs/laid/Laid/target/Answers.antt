-- target-requires: the record goes somewhere. returns: to one of the files.
use Rattle.std.proofs.Common.{◌≡◌, rules, List, ℕ, sym, ap, ◌∙◌, subst, to_z, of_z, w64}
use Rattle.std.specs.Prelude.{IsSome, FitsSigned}
use Rattle.symbol_table.specs.Targets.{target_of}
use Rattle.std.proofs.lemmas.Int.{to_z-of_z}
use Rattle.toc_rewrite.specs.Records.{facts_of}
use Rattle.toc_rewrite.proofs.SoundRecords.{goes_somewhere, target_known}
use Rattle.toc_rewrite.proofs.laid.Laid.target.Goals as goal

pub target-requires-clause-stands : goal.target-requires-clause-stands
target-requires-clause-stands c =
    let files = c.args.self.now.files in
    let id = c.args.id in
    let there = goes_somewhere files id c.resolved-res.ensures.whole c.requires c.kind.result c.kind.ensures
    (sym c.goes.ensures ∙ c.if-not-goes.false) in
    let rela = c.facts-rela.result in
    let fits : FitsSigned w64 rela.addend = search (rules, c.type_inv.rela) in
    let same : to_z w64 (of_z w64 rela.addend) ≡ (facts_of files id).addend =
    to_z-of_z w64 rela.addend fits ∙ c.facts-rela.ensures.addend in
    subst IsSome
    (ap (λ (s : ℕ). target_of files id.file s (facts_of files id).addend) (sym c.facts-rela.ensures.symbol)
    ∙ ap (target_of files id.file rela.symbol) (sym same)
    ∙ ap (λ (f : List (List ℕ)). target_of f id.file rela.symbol (to_z w64 (of_z w64 rela.addend))) (sym c.resolved-res.ensures.files))
    there

pub returns-clause-known : goal.returns-clause-known
returns-clause-known c =
    let files = c.args.self.now.files in
    let rela = c.facts-rela.result in
    target_known files c.args.id.file rela.symbol (to_z w64 (of_z w64 rela.addend)) c.target.result c.requires.file_in
    (ap (λ (f : List (List ℕ)). target_of f c.args.id.file rela.symbol (to_z w64 (of_z w64 rela.addend))) (sym c.resolved-res.ensures.files)
    ∙ c.target.ensures)
