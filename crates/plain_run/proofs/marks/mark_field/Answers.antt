-- At first all words of the field are left, each has a mark, one less is left after it, and none in the end.
use Rattle.std.proofs.Common.{◌≡◌, ◌<◌, ◌≤◌, ◌+◌, ◌-◌, ◌/◌, ℕ, None, ap, sym, ◌∙◌, subst, arith}
use Rattle.object_set.specs.Refusals.{set_refusal}
use Rattle.reloc_fields.specs.Table.{line_of}
use Rattle.plain_run.specs.inside.Marks.{AllTell, IsMarkedAs, LeftFrom, met_mark, start_of}
use Rattle.plain_run.proofs.Marking.{left_first, left_last, word_marked, meets_marked, met_at, field_within}
use Rattle.plain_run.proofs.marks.mark_field.Goals as goal

pub loop-word-init : goal.loop-word-init
loop-word-init c =
    let files = c.args.res.now.files in
    let id = c.args.id in
    let sections = c.args.sections.now.items in
    record {
      texts = c.requires.texts;
      marks = λ pairs rest tell. subst (λ (n : ℕ). AllTell files pairs (LeftFrom rest id n) 0 0 sections)
          (sym c.words_of-first.ensures.first)
          (left_first files id c.args.kind c.args.number c.requires.field pairs rest sections tell);
    }

pub mark_word-requires-clause-mark : goal.mark_word-requires-clause-mark
mark_word-requires-clause-mark c =
    let files = c.args.res.now.files in
    let id = c.args.id in
    let kind = c.args.kind in
    let word = c.loop-word.word in
    let whole : set_refusal files ≡ None = ap set_refusal (sym c.set.ensures) ∙ c.file_count-files.ensures.whole in
    let first : start_of files id / 4 ≤ word = omega (arith, c.loop-word.auto.word, c.words_of-first.ensures.first) in
    let last : word < (start_of files id + (line_of kind).width - 1) / 4 + 1 =
    omega (arith, c.loop-word-test.true, c.words_of-first.ensures.end) in
    meets_marked files whole c.requires.records c.loop-word.sections.items c.loop-word.invariant.texts id c.args.number word
    (met_at files id kind c.args.number c.requires.field word first last)

pub mark_word-requires-clause-word : goal.mark_word-requires-clause-word
mark_word-requires-clause-word c =
    let files = c.args.res.now.files in
    let whole : set_refusal files ≡ None = ap set_refusal (sym c.set.ensures) ∙ c.file_count-files.ensures.whole in
    let within = field_within files whole c.requires.records c.args.id c.args.kind c.args.number c.requires.field in
    omega (arith, within, c.loop-word-test.true, c.words_of-first.ensures.end)

pub loop-word-preserved : goal.loop-word-preserved
loop-word-preserved c =
    let files = c.args.res.now.files in
    let id = c.args.id in
    let kind = c.args.kind in
    let number = c.args.number in
    let word = c.loop-word.word in
    let old = c.loop-word.sections.items in
    let new = c.mark_word.new.sections.items in
    let whole : set_refusal files ≡ None = ap set_refusal (sym c.set.ensures) ∙ c.file_count-files.ensures.whole in
    let first : start_of files id / 4 ≤ word = omega (arith, c.loop-word.auto.word, c.words_of-first.ensures.first) in
    let last : word < (start_of files id + (line_of kind).width - 1) / 4 + 1 =
    omega (arith, c.loop-word-test.true, c.words_of-first.ensures.end) in
    let has = meets_marked files whole c.requires.records old c.loop-word.invariant.texts id number word
    (met_at files id kind number c.requires.field word first last) in
    let is : IsMarkedAs old new number word (met_mark id (start_of files id) word has.0) =
    subst (λ (n : ℕ). IsMarkedAs old new number word (met_mark id n word has.0)) c.record_of-start.ensures.offset
    (c.mark_word.ensures has.0 has.1) in
    record {
      texts = is.shapes ∙ c.loop-word.invariant.texts;
      marks = λ pairs rest tell. word_marked files id kind number c.requires.field pairs rest word first last old new has.0 has.1 is
          (c.loop-word.invariant.marks pairs rest tell);
    }

pub returns-clause-marks : goal.returns-clause-marks
returns-clause-marks c = λ pairs rest tell.
    let files = c.args.res.now.files in
    let id = c.args.id in
    let most : (start_of files id + (line_of c.args.kind).width - 1) / 4 + 1 ≤ c.loop-word.word =
    omega (arith, c.loop-word-test.false, c.words_of-first.ensures.end) in
    left_last files id c.args.kind c.args.number c.requires.field pairs rest c.loop-word.sections.items c.loop-word.word most
    (c.loop-word.invariant.marks pairs rest tell)
