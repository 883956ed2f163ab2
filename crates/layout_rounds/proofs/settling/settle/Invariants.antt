use Rattle.std.proofs.Common.{◌+◌, ◌-◌, min}
use Rattle.layout_rounds.specs.Shapes.{keyed_text}
use Rattle.layout_rounds.specs.Layout.{key_count}
use Rattle.layout_rounds.proofs.FarLayouts.{far_keys, IsSettling}
use Rattle.layout_rounds.proofs.settling.settle.Given as goal

-- each key outside the set reaches near in the last layout
abbrev pub invariant-loop-round : goal.invariant-loop-round
invariant-loop-round g l = IsSettling l.shape l.span l.far l.places l.round l.fn.steps l.steps l.looks

abbrev pub decreases-loop-round : goal.decreases-loop-round
decreases-loop-round g l = (key_count (keyed_text l.shape l.span) - far_keys l.shape l.span l.far) + min l.round.added 1
