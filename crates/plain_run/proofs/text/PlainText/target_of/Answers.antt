-- target-requires: the record goes somewhere. returns: there, which is a target of the files.
use Rattle.std.proofs.Common.{◌≡◌, ◌<◌, arith, rules, ℕ, ap, sym, ◌∙◌, subst, to_z, of_z, w64, Some}
use Rattle.std.specs.Prelude.{IsSome, FitsSigned}
use Rattle.std.proofs.lemmas.Int.{to_z-of_z}
use Rattle.object_set.specs.Walks.{IsRecord}
use Rattle.reloc_fields.specs.Table.{line_of}
use Rattle.symbol_table.specs.Targets.{target_of}
use Rattle.toc_groups.specs.Parts.{IsTargetOf}
use Rattle.toc_groups.proofs.Reading.{target_in}
use Rattle.toc_rewrite.specs.Records.{facts_of, kind_of, record_target}
use Rattle.toc_rewrite.proofs.SoundRecords.{goes_somewhere}
use Rattle.plain_run.specs.Jobs.{PlainJob}
use Rattle.plain_run.proofs.DataPointers.{goes_by, goes_to}
use Rattle.plain_run.proofs.text.PlainText.target_of.Goals as goal

pub target-requires-clause-stands : goal.target-requires-clause-stands
target-requires-clause-stands c =
    let files = c.self.inside.res.now.files in
    let id = c.args.id in
    let kind = c.args.kind in
    let there = subst (λ (j : PlainJob). IsRecord j.files id) (sym c.self.view_is) c.requires.«record» in
    let known = subst (λ (j : PlainJob). kind_of j.files id ≡ Some kind) (sym c.self.view_is) c.requires.kind in
    let fills : 0 < (line_of kind).width = omega (arith, c.width.ensures, c.if-width-eq0.false) in
    let goes = goes_somewhere files id c.self.invariant.job_is.records there kind known (goes_by kind fills c.in_default.not-Toc) in
    let rela = c.record_of-rela.result in
    let fits : FitsSigned w64 rela.addend = search (rules, c.type_inv.rela) in
    let same : to_z w64 (of_z w64 rela.addend) ≡ (facts_of files id).addend =
    to_z-of_z w64 rela.addend fits ∙ c.record_of-rela.ensures.addend in
    subst IsSome
    (ap (λ (s : ℕ). target_of files id.file s (facts_of files id).addend) (sym c.record_of-rela.ensures.symbol)
    ∙ ap (target_of files id.file rela.symbol) (sym same))
    goes

pub returns-clause-target : goal.returns-clause-target
returns-clause-target c =
    let files = c.self.inside.res.now.files in
    let id = c.args.id in
    let kind = c.args.kind in
    let known = subst (λ (j : PlainJob). kind_of j.files id ≡ Some kind) (sym c.self.view_is) c.requires.kind in
    let fills : 0 < (line_of kind).width = omega (arith, c.width.ensures, c.if-width-eq0.false) in
    let rela = c.record_of-rela.result in
    let fits : FitsSigned w64 rela.addend = search (rules, c.record_of-rela.type_inv) in
    let same : to_z w64 (of_z w64 rela.addend) ≡ (facts_of files id).addend =
    to_z-of_z w64 rela.addend fits ∙ c.record_of-rela.ensures.addend in
    sym (goes_to files id kind rela.symbol (to_z w64 (of_z w64 rela.addend)) (Some c.target.result) known
    (goes_by kind fills c.in_default.not-Toc) c.record_of-rela.ensures.symbol same c.target.ensures)
    ∙ ap (λ (j : PlainJob). record_target j.files id) c.self.view_is

pub returns-clause-known : goal.returns-clause-known
returns-clause-known c =
    let files = c.self.inside.res.now.files in
    let id = c.args.id in
    let rela = c.record_of-rela.result in
    let there = subst (λ (j : PlainJob). IsRecord j.files id) (sym c.self.view_is) c.requires.«record» in
    subst (λ (j : PlainJob). IsTargetOf j.files c.target.result) c.self.view_is
    (target_in files id.file rela.symbol (to_z w64 (of_z w64 rela.addend)) c.target.result c.self.invariant.job_is.whole there.file_in
    c.record_of-rela.ensures.known c.target.ensures)
