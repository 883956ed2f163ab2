use Rattle.std.proofs.Common.{rules, sym, ap, ◌∙◌, subst, to_z, of_z, w64}
use Rattle.std.specs.Prelude.{IsSome, FitsSigned}
use Rattle.std.proofs.lemmas.Int.{to_z-of_z}
use Rattle.object_set.specs.Refusals.{set_refusal}
use Rattle.image_writer.proofs.Slots.{symbol_goes, target_there}
use Rattle.image_writer.proofs.toc_loads.target_of.Goals as goal

-- the symbol of the record goes where the record does
pub target-requires-clause-stands : goal.target-requires-clause-stands
target-requires-clause-stands c =
    let files = c.args.res.now.files in
    let rela = c.record_of-rela.result in
    let fits : FitsSigned w64 rela.addend = search (rules, c.type_inv.rela) in
    let same = symbol_goes files c.args.id rela.symbol (to_z w64 (of_z w64 rela.addend)) c.requires.goes c.record_of-rela.ensures.symbol
    (to_z-of_z w64 rela.addend fits ∙ c.record_of-rela.ensures.addend) in
    subst IsSome (sym same) c.requires.goes

-- there it goes
pub returns-clause-target : goal.returns-clause-target
returns-clause-target c =
    let files = c.args.res.now.files in
    let rela = c.record_of-rela.result in
    let fits : FitsSigned w64 rela.addend = search (rules, c.before.before.record_of-rela.type_inv) in
    sym (symbol_goes files c.args.id rela.symbol (to_z w64 (of_z w64 rela.addend)) c.requires.goes c.record_of-rela.ensures.symbol
    (to_z-of_z w64 rela.addend fits ∙ c.record_of-rela.ensures.addend)) ∙ c.target.ensures

-- to something of the files
pub returns-clause-known : goal.returns-clause-known
returns-clause-known c =
    let files = c.args.res.now.files in
    let rela = c.record_of-rela.result in
    let fits : FitsSigned w64 rela.addend = search (rules, c.before.before.record_of-rela.type_inv) in
    let whole = ap set_refusal (sym c.set.ensures) ∙ c.file_count-files.ensures.whole in
    target_there files c.args.id c.target.result whole c.requires.record
    (sym (symbol_goes files c.args.id rela.symbol (to_z w64 (of_z w64 rela.addend)) c.requires.goes c.record_of-rela.ensures.symbol
    (to_z-of_z w64 rela.addend fits ∙ c.record_of-rela.ensures.addend)) ∙ c.target.ensures)
