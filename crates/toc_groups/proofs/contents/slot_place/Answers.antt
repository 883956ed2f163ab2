-- group_start-requires: the group is there. overflow: slots are low. returns: the slot lies in a segment.
use Rattle.std.proofs.Common.{ℕ, ◌+◌, ◌*◌, ap, sym, subst, ◌∙◌, arith}
use Rattle.object_set.specs.Refusals.{set_refusal}
use Rattle.toc_groups.specs.declared.pieces.DataEnds.{DataEnds}
use Rattle.toc_groups.specs.Plans.{data_ends}
use Rattle.toc_groups.specs.inside.Memory.{HasRange}
use Rattle.toc_groups.proofs.Reading.{starts_long, start_is}
use Rattle.toc_groups.proofs.Rooms.{few_slots, slot_range}
use Rattle.toc_groups.proofs.contents.slot_place.Goals as goal

pub group_start-requires : goal.group_start-requires
group_start-requires c =
    omega (arith, c.requires.group, starts_long c.args.res.now.files c.args.plan.now.span c.args.plan.now c.requires.plan)

pub overflow_mul-result : goal.overflow_mul-result
overflow_mul-result c =
    omega (
      arith,
      few_slots c.args.res.now.files c.args.plan.now.span c.args.group c.args.k
          (ap set_refusal (sym c.set.ensures) ∙ c.file_count-files.ensures.whole) c.requires.plan.fits c.requires.group c.requires.slot,
    )

pub overflow_add-result : goal.overflow_add-result
overflow_add-result c =
    omega (
      arith,
      few_slots c.args.res.now.files c.args.plan.now.span c.args.group c.args.k
          (ap set_refusal (sym c.set.ensures) ∙ c.file_count-files.ensures.whole) c.requires.plan.fits c.requires.group c.requires.slot,
      start_is c.args.res.now.files c.args.plan.now.span c.args.plan.now c.requires.plan c.args.group c.requires.group,
      c.group_start.ensures,
    )

pub returns-clause-place : goal.returns-clause-place
returns-clause-place c =
    ap (λ (s : ℕ). s + 8 * c.args.k) (c.group_start.ensures
    ∙ start_is c.args.res.now.files c.args.plan.now.span c.args.plan.now c.requires.plan c.args.group c.requires.group)

pub returns-clause-room : goal.returns-clause-room
returns-clause-room c =
    subst (λ (e : DataEnds). HasRange e (c.group_start.result + 8 * c.args.k) 8) (sym c.requires.plan.ends)
    (subst (λ (s : ℕ). HasRange (data_ends c.args.res.now.files c.args.plan.now.span) (s + 8 * c.args.k) 8)
    (sym (c.group_start.ensures
    ∙ start_is c.args.res.now.files c.args.plan.now.span c.args.plan.now c.requires.plan c.args.group c.requires.group))
    (slot_range c.args.res.now.files c.args.plan.now.span c.args.group c.args.k
    (ap set_refusal (sym c.set.ensures) ∙ c.file_count-files.ensures.whole) c.requires.group c.requires.slot))
