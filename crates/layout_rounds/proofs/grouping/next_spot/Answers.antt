-- returns-then-offset-section: the section joins the group. returns-else-before-section: it begins the next one.
use Rattle.std.proofs.Common.{inl, inr, arith}
use Rattle.layout_rounds.proofs.Aligned.{aligned_is, power_pos}
use Rattle.layout_rounds.proofs.Spots.{spot_joins, spot_begins}
use Rattle.layout_rounds.proofs.grouping.next_spot.Goals as goal
use Rattle.layout_rounds.proofs.grouping.next_spot.Goals.{else-before-section-via-then-before-section+else-offset-section}
use Rattle.layout_rounds.proofs.grouping.next_spot.Goals.{else-before-section-via-else-before-section}

pub returns-then-offset-section : goal.returns-then-offset-section
returns-then-offset-section c =
    let some = power_pos c.args.section.align c.requires.sound.power in
    spot_joins c.args.reach c.args.last c.args.before c.args.section c.align_up-offset.result
    (aligned_is _ c.args.section.align c.align_up-offset.result some c.align_up-offset.ensures)
    c.if-before-section.true (omega (arith, c.if-offset-section.true))

pub returns-else-before-section : goal.returns-else-before-section
returns-else-before-section c =
    let some = power_pos c.args.section.align c.requires.sound.power in
    spot_begins c.args.reach c.args.last c.args.before c.args.section c.align_up-offset.result
    (aligned_is _ c.args.section.align c.align_up-offset.result some c.align_up-offset.ensures)
    (elim c.else-before-section.branch [
      | else-before-section-via-then-before-section+else-offset-section w ↦
          inr (omega (arith, w.if-offset-section.false))
      | else-before-section-via-else-before-section w ↦ inl w.if-before-section.false
    ])
