-- loop-entry-preserved: one record more.
use Rattle.std.proofs.Common.{◌∙◌}
use Rattle.object_set.specs.declared.places.RecordId.{RecordId}
use Rattle.toc_rewrite.proofs.FoundRecords.{entry_found}
use Rattle.toc_rewrite.proofs.ReadRecords.{record_read}
use Rattle.toc_rewrite.proofs.laid.Laid.push_table.Goals as goal

pub loop-entry-preserved : goal.loop-entry-preserved
loop-entry-preserved c =
    let file = c.args.file in
    let table = c.args.table in
    let entry = c.loop-entry.entry in
    let section = c.section_header.result.info in
    let is = record_read c.args.self.now.files c.set.result.now c.view-view.result.now file table entry section
    (c.set.ensures ∙ c.resolved.ensures.files) c.view-view.ensures c.section_header.ensures.info in
    let r : RecordId = record { file = file; table = table; entry = entry; section = section } in
    record {
      found = entry_found c.args.self.now file table entry r c.args.found.now c.loop-entry.found c.push_record.new.found is
          c.loop-entry.invariant.found c.in_ok-push_record.ensures.found;
      same = c.in_ok-push_record.ensures.same ∙ c.loop-entry.invariant.same;
    }
