-- slot-requires: the symbol is one of the file's. returns: where its slot lies. symbol_address-requires: the symbol goes somewhere.
use Rattle.std.proofs.Common.{ℕ, Some, None, sym, ◌∙◌, subst}
use Rattle.std.specs.Prelude.{IsSome, pos}
use Rattle.symbol_table.specs.Targets.{target_of}
use Rattle.toc_groups.proofs.Reading.{laid_symbol, slot_is}
use Rattle.toc_groups.proofs.RecordValues.{record_goes, source_slot}
use Rattle.toc_groups.proofs.values.source_address.Goals as goal

pub slot-requires : goal.slot-requires
slot-requires c =
    laid_symbol c.args.res.now.files c.args.plan.now.span c.args.plan.now c.requires.of_files.plan_is c.args.id.file
    c.record_of-symbol.result.symbol c.requires.record.file_in c.record_of-symbol.ensures.known

pub returns-in-Some : goal.returns-in-Some
returns-in-Some c =
    let files = c.args.res.now.files in
    let span = c.args.plan.now.span in
    source_slot files span c.args.text.now.sections c.args.id c.args.kind c.record_of-symbol.result.symbol (Some c.in-Some.address)
    (sym c.is_slot_kind.ensures ∙ c.if-is_slot_kind.true) c.record_of-symbol.ensures.symbol
    (c.in-Some.ensures
    ∙ slot_is files span c.args.plan.now c.requires.of_files.plan_is c.args.id.file c.record_of-symbol.result.symbol
    c.requires.record.file_in c.record_of-symbol.ensures.known)

pub returns-in-None : goal.returns-in-None
returns-in-None c =
    let files = c.args.res.now.files in
    let span = c.args.plan.now.span in
    source_slot files span c.args.text.now.sections c.args.id c.args.kind c.record_of-symbol.result.symbol None
    (sym c.is_slot_kind.ensures ∙ c.if-is_slot_kind.true) c.record_of-symbol.ensures.symbol
    (c.in-None.ensures
    ∙ slot_is files span c.args.plan.now c.requires.of_files.plan_is c.args.id.file c.record_of-symbol.result.symbol
    c.requires.record.file_in c.record_of-symbol.ensures.known)

pub symbol_address-requires-clause-stands : goal.symbol_address-requires-clause-stands
symbol_address-requires-clause-stands c =
    subst (λ (j : ℕ). IsSome (target_of c.args.res.now.files c.args.id.file j (pos 0))) (sym c.record_of-symbol.ensures.symbol)
    (record_goes c.args.res.now.files c.args.id c.args.kind c.requires.of_files.records c.requires.record c.requires.kind c.requires.fills
    (sym c.looks_at_symbol.ensures ∙ c.if-looks_at_symbol.true))
