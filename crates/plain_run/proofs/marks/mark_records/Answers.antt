-- All records are left at first, one less after each, and none in the end.
use Rattle.std.proofs.Common.{List, map, ap, sym, ◌∙◌, subst}
use Rattle.std.specs.List.{All}
use Rattle.object_set.specs.declared.places.RecordId.{RecordId}
use Rattle.object_set.specs.Walks.{IsRecord, all_items, record_walk}
use Rattle.object_set.specs.laws.Walks.{all_records_in, first_of, rest_of}
use Rattle.plain_run.specs.inside.Marks.{MarkedSection, AllTell, LeftOf, shape_of}
use Rattle.plain_run.proofs.Marking.{all_left, none_left}
use Rattle.plain_run.proofs.marks.mark_records.Goals as goal

pub loop-id-init : goal.loop-id-init
loop-id-init c =
    let files = c.args.res.now.files in
    let sections = c.args.sections.now.items in
    let all = c.into_iter-id-iterator.ensures.into_iter_gives ∙ c.records-id-items.ensures ∙ ap (all_items record_walk) c.set.ensures in
    record {
      records = subst (All (IsRecord files)) (sym all) (all_records_in files);
      texts = ap (λ (l : List MarkedSection). map shape_of l) c.requires.texts;
      marks = λ pairs. subst (λ (l : List RecordId). AllTell files pairs (LeftOf l) 0 0 sections) (sym all)
          (all_left files pairs sections c.requires.texts);
    }

pub mark_record-requires-clause-record : goal.mark_record-requires-clause-record
mark_record-requires-clause-record c =
    first_of (IsRecord c.args.res.now.files) c.loop-id.id-iterator c.next.new.self c.in-Some.id c.loop-id.invariant.records
    c.in-Some.ensures.steps

pub loop-id-preserved : goal.loop-id-preserved
loop-id-preserved c =
    let files = c.args.res.now.files in
    let rest = c.next.new.self in
    let id = c.in-Some.id in
    let steps = c.in-Some.ensures.steps in
    record {
      records = rest_of (IsRecord files) c.loop-id.id-iterator rest id c.loop-id.invariant.records steps;
      texts = c.mark_record.ensures.texts;
      marks = λ pairs. c.mark_record.ensures.marks pairs rest
          (subst (λ (l : List RecordId). AllTell files pairs (LeftOf l) 0 0 c.loop-id.sections.items) steps
          (c.loop-id.invariant.marks pairs));
    }

pub returns-clause-marks : goal.returns-clause-marks
returns-clause-marks c = λ pairs.
    none_left c.args.res.now.files pairs c.loop-id.id-iterator c.loop-id.sections.items c.in-None.ensures.steps.0
    (c.loop-id.invariant.marks pairs)
