-- returns: a record that doesn't suit stands among those of the section. loop-entry-preserved: one record more.
use Rattle.std.proofs.Common.{◌≡◌, true, not, List, ℕ, sym, ap, ◌∙◌, arith}
use Rattle.elf64_records.specs.Records.{record_count}
use Rattle.object_set.specs.declared.places.RecordId.{RecordId}
use Rattle.object_set.specs.Files.{file_at}
use Rattle.object_set.specs.Walks.{record_id}
use Rattle.toc_rewrite.specs.inside.Tables.{is_unsuited_record}
use Rattle.toc_rewrite.specs.laws.Entries.{entry_passes, entry_more, not_true, not_false}
use Rattle.toc_rewrite.proofs.ReadRecords.{record_read}
use Rattle.toc_rewrite.proofs.laid.Laid.is_orderly_table.Goals as goal

pub returns-then-not-is_suited : goal.returns-then-not-is_suited
returns-then-not-is_suited c =
    let files = c.args.self.now.files in
    let file = c.args.file in
    let table = c.args.table in
    let b = file_at files file in
    let entry = c.loop-entry.entry in
    let view = c.view-view.ensures ∙ ap (λ (s : List (List ℕ)). file_at s file) (c.set.ensures ∙ c.resolved.ensures.files) in
    let count : c.record_count-count.result ≡ record_count b table =
    c.record_count-count.ensures ∙ ap (λ (l : List ℕ). record_count l table) view in
    let is = record_read files c.set.result.now c.view-view.result.now file table entry c.section_header.result.info
    (c.set.ensures ∙ c.resolved.ensures.files) c.view-view.ensures c.section_header.ensures.info in
    let test = is_unsuited_record files in
    let unsuited : test (record_id file b table entry) ≡ true =
    not_false (test (record_id file b table entry))
    (ap (λ (r : RecordId). not (test r)) (sym is) ∙ sym c.is_suited.ensures ∙ c.if-not-is_suited.true) in
    sym (ap not (entry_passes test file b table entry (record_count b table) (omega (arith, count, c.loop-entry-test.true)) unsuited))

pub loop-entry-preserved : goal.loop-entry-preserved
loop-entry-preserved c =
    let files = c.args.self.now.files in
    let file = c.args.file in
    let table = c.args.table in
    let entry = c.loop-entry.entry in
    let is = record_read files c.set.result.now c.view-view.result.now file table entry c.section_header.result.info
    (c.set.ensures ∙ c.resolved.ensures.files) c.view-view.ensures c.section_header.ensures.info in
    let test = is_unsuited_record files in
    let id = record_id file (file_at files file) table entry in
    entry_more test file (file_at files file) table entry c.loop-entry.invariant
    (not_true (test id) (ap (λ (r : RecordId). not (test r)) (sym is) ∙ sym c.is_suited.ensures ∙ c.if-not-is_suited.false))
