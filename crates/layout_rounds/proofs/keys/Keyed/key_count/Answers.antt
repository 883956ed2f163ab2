-- returns-clause-low: a stub ends below 2^62 in every layout.
use Rattle.std.proofs.Common.{arith}
use Rattle.layout_rounds.proofs.Bounds.{stub_low}
use Rattle.layout_rounds.proofs.keys.Keyed.key_count.Goals as goal

pub returns-clause-low : goal.returns-clause-low
returns-clause-low c = rw (← c.self.view_is) (λ F k lt.
    stub_low _ c.self.invariant.keyed F k (omega (arith, lt, c.len.ensures, c.self.inside.keys.ok.0)))
