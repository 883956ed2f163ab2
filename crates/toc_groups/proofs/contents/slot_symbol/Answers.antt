-- group_slots-requires, bounds: the slot is there. returns: its symbol was named by a record, so it goes somewhere.
use Rattle.std.proofs.Common.{ap, sym, ◌∙◌, arith}
use Rattle.object_set.specs.Refusals.{set_refusal}
use Rattle.toc_groups.proofs.Reading.{named_long}
use Rattle.toc_groups.proofs.Rooms.{few_slots}
use Rattle.toc_groups.proofs.SlotSymbols.{slot_read}
use Rattle.toc_groups.proofs.contents.slot_symbol.Goals as goal

pub group_slots-requires : goal.group_slots-requires
group_slots-requires c =
    omega (arith, c.requires.group, named_long c.args.res.now.files c.args.plan.now.span c.args.plan.now c.requires.plan)

pub offset_bounds-group_slots-k : goal.offset_bounds-group_slots-k
offset_bounds-group_slots-k c =
    omega (
      arith,
      few_slots c.args.res.now.files c.args.plan.now.span c.args.group c.args.k
          (ap set_refusal (sym c.set.ensures) ∙ c.file_count-files.ensures.whole) c.requires.plan.fits c.requires.group c.requires.slot,
    )

pub bounds-group_slots-k : goal.bounds-group_slots-k
bounds-group_slots-k c =
    (slot_read c.args.res.now.files c.args.plan.now.span c.args.plan.now c.args.group c.args.k c.group_slots.result.now
    (ap set_refusal (sym c.set.ensures) ∙ c.file_count-files.ensures.whole) c.requires.records c.requires.plan c.requires.group
    c.requires.slot c.group_slots.ensures).within

pub returns-clause-slot : goal.returns-clause-slot
returns-clause-slot c =
    (slot_read c.args.res.now.files c.args.plan.now.span c.args.plan.now c.args.group c.args.k c.group_slots.result.now
    (ap set_refusal (sym c.set.ensures) ∙ c.file_count-files.ensures.whole) c.requires.records c.requires.plan c.requires.group
    c.requires.slot c.group_slots.ensures).slot

pub returns-clause-file : goal.returns-clause-file
returns-clause-file c =
    (slot_read c.args.res.now.files c.args.plan.now.span c.args.plan.now c.args.group c.args.k c.group_slots.result.now
    (ap set_refusal (sym c.set.ensures) ∙ c.file_count-files.ensures.whole) c.requires.records c.requires.plan c.requires.group
    c.requires.slot c.group_slots.ensures).goes.file_in

pub returns-clause-symbol : goal.returns-clause-symbol
returns-clause-symbol c =
    (slot_read c.args.res.now.files c.args.plan.now.span c.args.plan.now c.args.group c.args.k c.group_slots.result.now
    (ap set_refusal (sym c.set.ensures) ∙ c.file_count-files.ensures.whole) c.requires.records c.requires.plan c.requires.group
    c.requires.slot c.group_slots.ensures).goes.within

pub returns-clause-stands : goal.returns-clause-stands
returns-clause-stands c =
    (slot_read c.args.res.now.files c.args.plan.now.span c.args.plan.now c.args.group c.args.k c.group_slots.result.now
    (ap set_refusal (sym c.set.ensures) ∙ c.file_count-files.ensures.whole) c.requires.records c.requires.plan c.requires.group
    c.requires.slot c.group_slots.ensures).goes.stands
