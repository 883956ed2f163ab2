-- returns: what stands between two places grows with the set; where they stand in the other order, the order itself holds the distance.
use Rattle.std.proofs.Common.{arith}
use Rattle.layout_rounds.specs.Shapes.{keyed_text}
use Rattle.layout_rounds.proofs.Shrinking.{near_shrinks}
use Rattle.layout_rounds.proofs.Called.{are_calls}
use Rattle.layout_rounds.proofs.laws.reach_shrinks.Goals as goal

pub returns : goal.returns
returns c shape span F G sound is_span sub k lt h =
    near_shrinks (keyed_text shape span) shape.sites.items span F G (are_calls shape span sound)
    (omega (arith, is_span.least)) sub k lt h
