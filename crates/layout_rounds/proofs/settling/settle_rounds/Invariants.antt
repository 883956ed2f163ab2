use Rattle.std.proofs.Common.{◌≡◌, ◌-◌}
use Rattle.layout_rounds.specs.Shapes.{keyed_text}
use Rattle.layout_rounds.specs.Layout.{key_count}
use Rattle.layout_rounds.proofs.FarLayouts.{far_keys, IsGrowing}
use Rattle.layout_rounds.proofs.settling.settle_rounds.Given as goal

-- the set grows within every closed set
abbrev pub invariant-loop-ways : goal.invariant-loop-ways
invariant-loop-ways g l = record {
  keyed_is : l.keyed ≡ keyed_text l.shape l.span;
  grows : IsGrowing l.shape l.span l.far l.fn.steps l.steps l.looks;
}

abbrev pub decreases-loop-ways : goal.decreases-loop-ways
decreases-loop-ways g l = key_count (keyed_text l.shape l.span) - far_keys l.shape l.span l.far
