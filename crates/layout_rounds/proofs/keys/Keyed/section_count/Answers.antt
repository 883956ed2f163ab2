-- returns-clause-low: a section ends below 2^62 in every layout.
use Rattle.std.proofs.Common.{arith}
use Rattle.layout_rounds.proofs.Bounds.{section_low}
use Rattle.layout_rounds.proofs.keys.Keyed.section_count.Goals as goal

pub returns-clause-low : goal.returns-clause-low
returns-clause-low c = rw (← c.self.view_is) (λ F s lt.
    section_low _ c.self.invariant.keyed F s (omega (arith, lt, c.len.ensures, c.self.inside.sections.ok.0)))
