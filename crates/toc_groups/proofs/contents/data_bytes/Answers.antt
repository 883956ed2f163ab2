-- push_segment-requires: the ends are in order. returns: the segments have what memory holds.
use Rattle.std.proofs.Common.{ap, sym, ◌∙◌}
use Rattle.object_set.specs.Refusals.{set_refusal}
use Rattle.toc_groups.proofs.Rooms.{ends_in_order}
use Rattle.toc_groups.proofs.Segments.{segments_are}
use Rattle.toc_groups.proofs.contents.data_bytes.Goals as goal

pub push_segment-requires : goal.push_segment-requires
push_segment-requires c =
    record {
      order = (ends_in_order c.args.res.now.files c.args.plan.now.span c.ends-ends.result (c.ends-ends.ensures ∙ c.requires.plan_is.ends)
          (ap set_refusal (sym c.set.ensures) ∙ c.file_count-files.ensures.whole) c.requires.plan_is.fits).first;
    }

pub push_segment-requires-2 : goal.push_segment-requires-2
push_segment-requires-2 c =
    record {
      order = (ends_in_order c.args.res.now.files c.args.plan.now.span c.ends-ends.result (c.ends-ends.ensures ∙ c.requires.plan_is.ends)
          (ap set_refusal (sym c.set.ensures) ∙ c.file_count-files.ensures.whole) c.requires.plan_is.fits).written;
    }

pub returns-clause-segments : goal.returns-clause-segments
returns-clause-segments c =
    segments_are c.args.res.now.files c.args.plan.now.span c.args.text.now.sections c.in_ok-memory.memory c.ends-ends.result
    c.into_parts-read_only.result.0.items c.into_parts-read_only.result.1.items c.new-list.result.items c.push_segment.new.list.items
    c.push_segment-2.new.list.items (c.in_ok-memory.ensures.ends ∙ sym c.ends-ends.ensures)
    (c.ends-ends.ensures ∙ c.requires.plan_is.ends) c.in_ok-memory.ensures.holds c.into_parts-read_only.ensures.read_only
    c.into_parts-read_only.ensures.writable c.new-list.ensures.items c.in_ok-push_segment.ensures c.in_ok-push_segment-2.ensures
