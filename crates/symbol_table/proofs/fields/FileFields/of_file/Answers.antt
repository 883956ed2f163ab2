use Rattle.std.proofs.Common.{◌≡◌, ℕ, List, ◌++◌, map, sym, ap, ◌∙◌, subst, add-one, arith}
use Rattle.std.specs.List.Sorted.{IsPermutation}
use Rattle.std.proofs.lemmas.List.{map-append}
use Rattle.elf64_records.specs.FileHeader.{e_shnum}
use Rattle.elf64_records.specs.Records.{record_count}
use Rattle.object_set.specs.Files.{file_at}
use Rattle.object_set.specs.Walks.{items_in, record_walk, records_in}
use Rattle.symbol_table.specs.declared.fields.RecordField.{RecordField}
use Rattle.symbol_table.specs.Fields.{field_of}
use Rattle.symbol_table.specs.inside.Fields.{AreApart}
use Rattle.symbol_table.proofs.fields.FileFields.of_file.Goals as goal

-- the fields of one section's records more
pub loop-table-preserved : goal.loop-table-preserved
loop-table-preserved c =
    let file = c.args.file in
    let b = file_at c.args.set.now file in
    let table = c.loop-table.table in
    let more = records_in file b table (record_count b table) in
    c.in_ok-push_table.ensures ∙ ap (λ (l : List RecordField). l ++ map (field_of b) more) c.loop-table.invariant
    ∙ sym (map-append (field_of b) (items_in record_walk file b table) more)
    ∙ ap (λ (n : ℕ). map (field_of b) (items_in record_walk file b n)) (sym (add-one table))

-- those of all sections, in order of their places
pub invariant_of-result : goal.invariant_of-result
invariant_of-result c =
    let file = c.args.file in
    let b = file_at c.args.set.now file in
    let count = c.section_count-table-end.ensures.count ∙ ap e_shnum c.view.ensures in
    let all : c.loop-table.table ≡ e_shnum b = omega (arith, count) in
    let items = c.loop-table.invariant ∙ ap (λ (n : ℕ). map (field_of b) (items_in record_walk file b n)) all in
    record {
      fields = record {
        file_in = c.requires;
        same = subst (λ (l : List RecordField). IsPermutation l c.sort_fields.new.fields.items) items c.sort_fields.ensures.same;
        sorted = c.sort_fields.ensures.sorted;
      };
      apart_is = λ apart. subst AreApart c.deref.ensures.value (c.are_apart-apart.ensures apart);
    }
