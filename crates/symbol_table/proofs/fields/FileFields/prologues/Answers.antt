use Rattle.std.proofs.Common.{sym, ◌∙◌}
use Rattle.std.specs.List.{slice_index_or}
use Rattle.std.proofs.lemmas.List.Folds.{list_any_at}
use Rattle.symbol_table.specs.declared.places.FilePlace.{FilePlace}
use Rattle.symbol_table.specs.inside.Places.{is_place}
use Rattle.symbol_table.proofs.KeptPrologues.{own_place}
use Rattle.symbol_table.proofs.fields.FileFields.prologues.Goals as goal

-- each of the places is that of a function with two entry points
pub has_prologue-requires : goal.has_prologue-requires
has_prologue-requires c =
    let k = c.loop-place.place-index in
    let entries = c.args.entries.now in
    let none : FilePlace = record { section = 0; offset = 0 } in
    let p = slice_index_or entries k none in
    sym (c.requires p.section p.offset)
    ∙ list_any_at (is_place p.section p.offset) entries k none c.loop-place-test.true (own_place p)
