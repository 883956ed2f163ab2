-- returns: each of two least sets is contained in the other.
use Rattle.std.proofs.Common.{ℕ, Bool, ap}
use Rattle.layout_rounds.specs.Shapes.{keyed_text}
use Rattle.layout_rounds.proofs.FarLayouts.{same_set}
use Rattle.layout_rounds.proofs.laws.one_far_set.Goals as goal

pub returns : goal.returns
returns c shape span F G f g k =
    ap (λ (H : ℕ → Bool). H k) (same_set (keyed_text shape span) shape.sites.items span F G f g)
