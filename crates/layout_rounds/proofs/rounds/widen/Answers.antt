-- loop-k-preserved: one more key is looked at.
use Rattle.std.proofs.Common.{ℕ, Bool, refl, arith}
use Rattle.layout_rounds.specs.inside.Ways.{way_at, way_reaches}
use Rattle.layout_rounds.proofs.RoundSteps.{round_looks}
use Rattle.layout_rounds.proofs.rounds.widen.Goals as goal

pub loop-k-preserved : goal.loop-k-preserved
loop-k-preserved c =
    let near : ℕ → Bool = λ k. way_reaches c.args.span c.args.starts.now (way_at c.args.ways.now k) in
    let k = c.loop-k.k in
    round_looks near c.args.far.now c.loop-k.far k c.loop-k.round c.loop-k.invariant (near k) c.look.new.far
    c.look.new.round refl
    (omega (arith, c.loop-k-test.true, c.loop-k.invariant.long, c.requires.keys))
    c.look.ensures.far c.look.ensures.round
