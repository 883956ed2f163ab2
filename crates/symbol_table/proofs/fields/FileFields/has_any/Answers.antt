use Rattle.std.proofs.Common.{◌≡◌, ap, ◌∙◌, subst}
use Rattle.std.specs.List.{filter, list_any}
use Rattle.object_set.specs.Files.{file_at}
use Rattle.symbol_table.specs.Fields.{fields_of, meets}
use Rattle.symbol_table.specs.inside.Fields.{FileOf}
use Rattle.symbol_table.proofs.FileRecords.{items_narrow, any_found}
use Rattle.symbol_table.proofs.fields.FileFields.has_any.Goals as goal

-- no field of the file has more than eight bytes
pub window-requires-clause-narrow : goal.window-requires-clause-narrow
window-requires-clause-narrow c =
    items_narrow c.self.inside.set.now c.self.inside.file c.self.inside.items.items c.deref.result.now c.self.invariant.fields
    c.deref.ensures.value

-- what one of the window passes one of the file's passes
pub returns : goal.returns
returns c =
    let set = c.self.inside.set.now in
    let file = c.self.inside.file in
    let items = c.self.inside.items.items in
    let m = meets c.args.section c.args.from c.args.count in
    let holds = c.window.ensures ∙ ap (filter m) c.deref.ensures.value in
    subst (λ (f : FileOf). c.any_meets.result ≡ list_any m (fields_of f.file (file_at f.files f.file))) c.self.view_is
    (c.any_meets.ensures ∙ any_found m (fields_of file (file_at set file)) items c.window.result.now holds c.self.invariant.fields.same)
