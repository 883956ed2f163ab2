use Rattle.std.proofs.Common.{ap, ◌∙◌, subst}
use Rattle.std.specs.List.{All, filter}
use Rattle.object_set.specs.Files.{file_at}
use Rattle.symbol_table.specs.Fields.{fields_of, meets}
use Rattle.symbol_table.specs.inside.Fields.{FileOf, IsFieldOf, AreOnlyTwo}
use Rattle.symbol_table.proofs.FileRecords.{items_are, items_narrow, two_of, two_are}
use Rattle.symbol_table.proofs.fields.FileFields.only_two.Goals as goal

-- no field of the file has more than eight bytes
pub window-requires-clause-narrow : goal.window-requires-clause-narrow
window-requires-clause-narrow c =
    items_narrow c.self.inside.set.now c.self.inside.file c.self.inside.items.items c.deref.result.now c.self.invariant.fields
    c.deref.ensures.value

-- the two of the window are the two of the file
pub returns-clause-two : goal.returns-clause-two
returns-clause-two c =
    let set = c.self.inside.set.now in
    let file = c.self.inside.file in
    let items = c.self.inside.items.items in
    let m = meets c.args.section c.args.from c.args.count in
    let holds = c.window.ensures ∙ ap (filter m) c.deref.ensures.value in
    subst (λ (f : FileOf). AreOnlyTwo (filter m (fields_of f.file (file_at f.files f.file))) c.only_two.result) c.self.view_is
    (two_of m (fields_of file (file_at set file)) items c.window.result.now holds c.only_two.result c.self.invariant.fields.same
    c.only_two.ensures)

-- and each is that of a record of the file
pub returns-clause-records : goal.returns-clause-records
returns-clause-records c =
    let set = c.self.inside.set.now in
    let file = c.self.inside.file in
    let items = c.self.inside.items.items in
    let m = meets c.args.section c.args.from c.args.count in
    let holds = c.window.ensures ∙ ap (filter m) c.deref.ensures.value in
    two_are m (fields_of file (file_at set file)) items c.window.result.now holds (IsFieldOf c.args.self.now.files c.args.self.now.file)
    c.only_two.result
    (subst (λ (f : FileOf). All (IsFieldOf f.files f.file) items) c.self.view_is (items_are set file items c.self.invariant.fields))
    c.only_two.ensures
