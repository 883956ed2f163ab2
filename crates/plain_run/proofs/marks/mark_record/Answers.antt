-- A record that isn't in text, has no kind or fills nothing has bytes of no word.
use Rattle.std.proofs.Common.{◌≡◌, ◌≤◌, None, ap, sym, ◌∙◌, arith}
use Rattle.object_set.specs.Refusals.{set_refusal}
use Rattle.reloc_fields.specs.Table.{line_of}
use Rattle.symbol_table.specs.Fields.{kind_numbered}
use Rattle.symbol_table.specs.laws.Sections.{record_about}
use Rattle.plain_run.proofs.Marking.{passed, out_of_text, no_kind, no_bytes, numbered}
use Rattle.plain_run.proofs.marks.mark_record.Goals as goal

pub text_number-requires-clause-section : goal.text_number-requires-clause-section
text_number-requires-clause-section c =
    let whole : set_refusal c.args.res.now.files ≡ None = ap set_refusal (sym c.set.ensures) ∙ c.file_count-files.ensures.whole in
    (record_about c.args.res.now.files c.args.id whole c.requires.record).within

pub returns-in-None-clause-marks : goal.returns-in-None-clause-marks
returns-in-None-clause-marks c = λ pairs rest tell.
    let files = c.args.res.now.files in
    passed files pairs c.args.id rest c.args.sections.now.items
    (out_of_text files c.args.id (sym c.in-None.is ∙ c.text_number.ensures)) tell

pub returns-in-None-kind_numbered-clause-marks : goal.returns-in-None-kind_numbered-clause-marks
returns-in-None-kind_numbered-clause-marks c = λ pairs rest tell.
    let files = c.args.res.now.files in
    passed files pairs c.args.id rest c.args.sections.now.items
    (no_kind files c.args.id c.record_of.result.kind c.record_of.ensures.kind
    (sym c.in-None-kind_numbered.is ∙ c.kind_numbered.ensures)) tell

-- The field of any other is one of text.
pub mark_field-requires-clause-field : goal.mark_field-requires-clause-field
mark_field-requires-clause-field c =
    let files = c.args.res.now.files in
    let whole : set_refusal files ≡ None = ap set_refusal (sym c.set.ensures) ∙ c.file_count-files.ensures.whole in
    record {
      here = c.requires.record;
      kind_is = ap kind_numbered (sym c.record_of.ensures.kind) ∙ sym c.kind_numbered.ensures ∙ c.in-Some-kind_numbered.is;
      fills = omega (arith, c.if-width-gt0.true, c.width.ensures);
      section = numbered files whole c.requires.records c.args.id c.in-Some.number c.requires.record
          (sym c.in-Some.is ∙ c.text_number.ensures);
    }

pub returns-else-width-gt0-clause-marks : goal.returns-else-width-gt0-clause-marks
returns-else-width-gt0-clause-marks c = λ pairs rest tell.
    let files = c.args.res.now.files in
    let none : (line_of c.in-Some-kind_numbered.kind).width ≤ 0 = omega (arith, c.if-width-gt0.false, c.width.ensures) in
    passed files pairs c.args.id rest c.args.sections.now.items
    (no_bytes files c.args.id c.record_of.result.kind c.in-Some-kind_numbered.kind c.record_of.ensures.kind
    (sym c.in-Some-kind_numbered.is ∙ c.kind_numbered.ensures) none) tell
