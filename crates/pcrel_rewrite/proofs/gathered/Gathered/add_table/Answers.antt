-- text_number-requires and add_records-requires: what the records are about is a section of their file.
use Rattle.pcrel_rewrite.proofs.Tables.{about_read}
use Rattle.pcrel_rewrite.proofs.gathered.Gathered.add_table.Goals as goal

pub text_number-requires-clause-section : goal.text_number-requires-clause-section
text_number-requires-clause-section c =
    about_read c.args.resolved.now.files c.set-set.result.now c.view-view.result.now c.args.file c.args.table c.record_count.result
    c.section_header-section.result.info c.set-set.ensures c.file_count-files.ensures.whole c.view-view.ensures c.record_count.ensures
    c.if-record_count-eq0.false c.section_header-section.ensures.info c.requires.file c.requires.table

pub add_records-requires-clause-section : goal.add_records-requires-clause-section
add_records-requires-clause-section c =
    about_read c.args.resolved.now.files c.set-set.result.now c.view-view.result.now c.args.file c.args.table c.record_count.result
    c.section_header-section.result.info c.set-set.ensures c.file_count-files.ensures.whole c.view-view.ensures c.record_count.ensures
    c.if-record_count-eq0.false c.section_header-section.ensures.info c.requires.file c.requires.table
