use Rattle.std.proofs.Common.{ℕ, sym, subst, refl}
use Rattle.std.specs.Prelude.{IsSome, pos}
use Rattle.reloc_fields.specs.declared.kind.Kind.TheVariants.{GotPcrel34}
use Rattle.symbol_table.specs.Targets.{target_of}
use Rattle.toc_groups.proofs.RecordValues.{record_goes}
use Rattle.image_writer.proofs.Fielding.{text_field}
use Rattle.image_writer.proofs.got_loads.load_distance.Goals as goal

-- the symbol of a load goes somewhere
pub symbol_address-address-requires-clause-stands : goal.symbol_address-address-requires-clause-stands
symbol_address-address-requires-clause-stands c =
    let files = c.args.res.now.files in
    let field = text_field files c.args.id GotPcrel34 c.requires.kind in
    subst (λ (j : ℕ). IsSome (target_of files c.args.id.file j (pos 0))) (sym c.record_of-symbol.ensures.symbol)
    (record_goes files c.args.id GotPcrel34 c.requires.of_files.records c.requires.record field.known field.fills refl)
