use Rattle.std.proofs.Common.{◌≡◌, ℕ, false, List, sym, ap, ◌∙◌, subst}
use Rattle.std.specs.List.{filter}
use Rattle.std.specs.List.Sorted.{IsPermutation}
use Rattle.object_set.specs.Files.{file_at}
use Rattle.object_set.specs.Walks.{IsRecord}
use Rattle.symbol_table.specs.declared.fields.RecordField.{RecordField}
use Rattle.symbol_table.specs.Fields.{fields_of, meets, overlaps_earlier}
use Rattle.symbol_table.specs.inside.Fields.{FileOf}
use Rattle.symbol_table.proofs.FileRecords.{items_narrow, earlier_found}
use Rattle.symbol_table.proofs.FieldsApart.{none_earlier}
use Rattle.symbol_table.proofs.fields.FileFields.overlaps_earlier.Goals as goal

-- no field of the file has more than eight bytes
pub window-requires-clause-narrow : goal.window-requires-clause-narrow
window-requires-clause-narrow c =
    items_narrow c.self.inside.set.now c.self.inside.file c.self.inside.items.items c.deref.result.now c.self.invariant.fields
    c.deref.ensures.value

-- a field with common bytes is in the window
pub returns : goal.returns
returns c =
    let r = c.args.id in
    let items = c.self.inside.items.items in
    let number : r.file ≡ c.self.inside.file = c.requires.file ∙ ap (λ (f : FileOf). f.file) (sym c.self.view_is) in
    let b = file_at c.self.inside.set.now r.file in
    let same : IsPermutation (fields_of r.file b) items =
    subst (λ (n : ℕ). IsPermutation (fields_of n (file_at c.self.inside.set.now n)) items) (sym number) c.self.invariant.fields.same in
    let field = c.of_record-field.result in
    let m = meets r.section field.start field.width in
    let holds = c.window.ensures ∙ ap (λ (l : List RecordField). filter m l) c.deref.ensures.value in
    subst (λ (f : FileOf). c.has_earlier.result ≡ overlaps_earlier r.file (file_at f.files r.file) r) c.self.view_is
    (earlier_found r.file b items c.window.result.now r c.has_earlier.result same field c.of_record-field.ensures holds
    c.has_earlier.ensures)

-- where each field ends before the next one, no field has bytes of another
pub returns-then-self : goal.returns-then-self
returns-then-self c =
    let r = c.args.id in
    let set = c.self.inside.set.now in
    let items = c.self.inside.items.items in
    let number : r.file ≡ c.self.inside.file = c.requires.file ∙ ap (λ (f : FileOf). f.file) (sym c.self.view_is) in
    let is = subst (λ (f : FileOf). IsRecord f.files r) (sym c.self.view_is) c.requires.record in
    let same : IsPermutation (fields_of r.file (file_at set r.file)) items =
    subst (λ (n : ℕ). IsPermutation (fields_of n (file_at set n)) items) (sym number) c.self.invariant.fields.same in
    subst (λ (f : FileOf). false ≡ overlaps_earlier r.file (file_at f.files r.file) r) c.self.view_is
    (sym (none_earlier set r is items same (c.self.invariant.apart_is c.if-self.true)))
