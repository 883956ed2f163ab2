-- zeroed-requires: the ends are in order. put_slots-requires, fill_fields-requires: memory holds what was put before. returns: it holds
-- all.
use Rattle.std.proofs.Common.{ap, sym, ◌∙◌}
use Rattle.object_set.specs.Refusals.{set_refusal}
use Rattle.toc_groups.specs.inside.Memory.{byte_of}
use Rattle.toc_groups.proofs.FieldFilling.{filled_none, filled_all}
use Rattle.toc_groups.proofs.Filling.{slotted_none}
use Rattle.toc_groups.proofs.Rooms.{ends_in_order}
use Rattle.toc_groups.proofs.contents.data_memory.Goals as goal

pub zeroed-requires : goal.zeroed-requires
zeroed-requires c =
    let ends = ends_in_order c.args.res.now.files c.args.plan.now.span c.ends.result (c.ends.ensures ∙ c.requires.plan_is.ends)
    (ap set_refusal (sym c.set.ensures) ∙ c.file_count-files.ensures.whole) c.requires.plan_is.fits in
    record { first = ends.first; order = ends.order; last = ends.last; limit = ends.limit }

pub put_slots-requires-clause-before : goal.put_slots-requires-clause-before
put_slots-requires-clause-before c =
    slotted_none c.args.res.now.files c.args.plan.now.span c.args.text.now.sections (byte_of c.copy_sections.new.memory)
    c.copy_sections.ensures.copied

pub fill_fields-requires-clause-before : goal.fill_fields-requires-clause-before
fill_fields-requires-clause-before c =
    filled_none c.args.res.now.files c.args.plan.now.span c.args.text.now.sections (byte_of c.put_slots.new.memory)
    c.put_slots.ensures.slotted

pub returns-clause-holds : goal.returns-clause-holds
returns-clause-holds c =
    filled_all c.args.res.now.files c.args.plan.now.span c.args.text.now.sections (byte_of c.fill_fields.new.memory)
    c.in_ok-fill_fields.ensures.filled
