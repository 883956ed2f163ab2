-- The field lies in its section, which isn't long.
use Rattle.std.proofs.Common.{◌≡◌, None, ap, sym, ◌∙◌, arith}
use Rattle.object_set.specs.Refusals.{set_refusal}
use Rattle.plain_run.proofs.Marking.{field_within}
use Rattle.plain_run.proofs.marks.words_of.Goals as goal

pub overflow_add-last : goal.overflow_add-last
overflow_add-last c =
    let files = c.args.res.now.files in
    let whole : set_refusal files ≡ None = ap set_refusal (sym c.set.ensures) ∙ c.file_count-files.ensures.whole in
    let within = field_within files whole c.requires.records c.args.id c.args.kind c.args.number c.requires.field in
    omega (arith, within, c.record_of-start.ensures.offset, c.from.ensures, c.width.ensures)
