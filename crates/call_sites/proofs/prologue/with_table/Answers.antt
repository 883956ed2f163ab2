-- loop-entry-init: no record is seen. loop-entry-preserved: one record more. returns: all records.
use Rattle.std.proofs.Common.{◌≡◌, ℕ, List, map, ap, ◌∙◌, subst, arith}
use Rattle.elf64_records.specs.Records.{record_count}
use Rattle.elf64_records.specs.Sections.{sh_info}
use Rattle.object_set.specs.Files.{file_at}
use Rattle.object_set.specs.Walks.{records_in}
use Rattle.symbol_table.specs.Fields.{field_of}
use Rattle.call_sites.specs.inside.Halves.{with_field, SeesMore}
use Rattle.call_sites.proofs.SeenHalves.{sees_none, sees_record}
use Rattle.call_sites.proofs.prologue.with_table.Goals as goal

pub loop-entry-init : goal.loop-entry-init
loop-entry-init c = sees_none (file_at c.args.set.now c.args.file) c.args.halves c.args.seen

pub loop-entry-preserved : goal.loop-entry-preserved
loop-entry-preserved c =
    let file = c.args.file in
    let b = file_at c.args.set.now file in
    let table = c.args.table in
    let n = c.loop-entry.entry in
    let section : c.section_header-section.result.info ≡ sh_info b table =
    c.section_header-section.ensures.info ∙ ap (λ (l : List ℕ). sh_info l table) c.view-view.ensures in
    sees_record b c.args.halves file table n c.args.seen c.loop-entry.all c.with_record-all.result c.loop-entry.invariant
    (c.with_record-all.ensures
    ∙ ap (λ (s : ℕ).
    with_field b c.args.halves c.loop-entry.all (field_of b (record { file = file; table = table; entry = n; section = s })))
    section)

pub returns : goal.returns
returns c =
    let file = c.args.file in
    let b = file_at c.args.set.now file in
    let table = c.args.table in
    let count = c.record_count-entry-end.ensures ∙ ap (λ (l : List ℕ). record_count l table) c.view-view.ensures in
    let all : c.loop-entry.entry ≡ record_count b table = omega (arith, count) in
    subst (λ (n : ℕ). SeesMore b c.args.halves c.args.seen c.loop-entry.all (map (field_of b) (records_in file b table n))) all
    c.loop-entry.invariant
