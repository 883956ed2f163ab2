-- The word of a load has the mark of its record's field.
use Rattle.std.proofs.Common.{◌≡◌, Some, sym, ◌∙◌, subst}
use Rattle.object_set.specs.declared.places.RecordId.{RecordId}
use Rattle.object_set.specs.Files.{file_at}
use Rattle.reloc_fields.specs.declared.kind.Kind.TheVariants.{GotPcrel34}
use Rattle.symbol_table.specs.Fields.{field_of}
use Rattle.plain_run.specs.Standing.{field_at}
use Rattle.plain_run.specs.inside.Text.{IsFieldAt}
use Rattle.plain_run.proofs.LoadWords.{job_load, load_record, never_other}
use Rattle.plain_run.proofs.text.PlainText.load_at.Goals as goal

pub returns-in-Some-field : goal.returns-in-Some-field
returns-in-Some-field c =
    let job = c.args.self.now in
    let p = c.args.p in
    let load = job_load _ job _ _ p c.requires.0 c.self.invariant.job_is c.self.view_is c.requires.1 in
    subst (λ (r : RecordId). (field_at job.files p ≡ Some (field_of (file_at job.files r.file) r)) × IsFieldAt job.files p r GotPcrel34)
    (sym c.record_at.ensures)
    (load_record job.files job.plan.groups job.pairs p load c.in-Some.mark c.in-Some-field.table c.in-Some-field.entry
    (sym c.field.ensures ∙ c.in-Some-field.is) c.in-Some.ensures.some.1)

pub returns-in-None-field : goal.returns-in-None-field
returns-in-None-field c =
    let job = c.args.self.now in
    let load = job_load _ job _ _ c.args.p c.requires.0 c.self.invariant.job_is c.self.view_is c.requires.1 in
    never_other job.files job.plan.groups job.pairs c.args.p load c.in-Some.mark (sym c.field.ensures ∙ c.in-None-field.is)
    c.in-Some.ensures.some.1

pub returns-in-None : goal.returns-in-None
returns-in-None c =
    let job = c.args.self.now in
    let load = job_load _ job _ _ c.args.p c.requires.0 c.self.invariant.job_is c.self.view_is c.requires.1 in
    let word = load.word in
    let other = c.mark_at.ensures.none c.in-None.is in
    cc
