-- loop-k-preserved: one more key is looked at, or rests.
use Rattle.std.proofs.Common.{ℕ, ◌<◌, ◌∙◌, Bool, length, refl, sym, arith}
use Rattle.layout_rounds.specs.inside.Ways.{way_at, way_reaches}
use Rattle.layout_rounds.proofs.RoundSteps.{round_looks, round_rests}
use Rattle.layout_rounds.proofs.rounds.widen_grown.Goals as goal
use Rattle.layout_rounds.proofs.rounds.widen_grown.Goals.{then-not-rests, else-not-rests}

pub loop-k-preserved : goal.loop-k-preserved
loop-k-preserved c =
    let near : ℕ → Bool = λ k. way_reaches c.args.span c.args.starts.now (way_at c.args.ways.now k) in
    let old = c.args.far.now in
    let far = c.loop-k.far in
    let k = c.loop-k.k in
    let so_far = c.loop-k.invariant in
    let within : k < length c.args.ways.now = c.loop-k-test.true in
    elim c.if-not-rests.branch [
      | then-not-rests w ↦ rw (w.far-is, w.round-is) (round_looks near old far k c.loop-k.round so_far (near k)
          w.look.new.far w.look.new.round refl (omega (arith, within, so_far.long, c.requires.keys))
          w.look.ensures.far w.look.ensures.round)
      | else-not-rests w ↦ rw (w.far-is, w.round-is) (round_rests near old far k c.loop-k.round so_far
          (λ out. c.rests.ensures w.if-not-rests.false c.args.span
          (c.requires.was_near k within (sym (so_far.untouched k (omega arith)) ∙ out))))
    ]
