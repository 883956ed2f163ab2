use Rattle.std.proofs.Common.{ℕ, ◌<◌}
use Rattle.layout_rounds.specs.Shapes.{section_of, IsSoundSection}
use Rattle.layout_rounds.specs.inside.Checked.{IsSoundSite}
use Rattle.layout_rounds.proofs.tests.sound.Given as goal

-- the sections so far are sound
abbrev pub invariant-loop-s : goal.invariant-loop-s
invariant-loop-s l = (s : ℕ) → s < l.s → IsSoundSection (section_of l.shape.sections.items s)

-- so are the calls so far
abbrev pub invariant-loop-i : goal.invariant-loop-i
invariant-loop-i l = (i : ℕ) → i < l.i → IsSoundSite l.shape.sections.items l.shape.sites.items i
