-- returns: the set to which one key after the other is added that doesn't reach near.
use Rattle.std.proofs.Common.{arith}
use Rattle.layout_rounds.specs.Shapes.{keyed_text}
use Rattle.layout_rounds.proofs.Called.{are_calls}
use Rattle.layout_rounds.proofs.FarSetExists.{some_set}
use Rattle.layout_rounds.proofs.laws.some_far_set.Goals as goal

pub returns : goal.returns
returns c shape span sound is_span =
    some_set (keyed_text shape span) shape.sites.items span (are_calls shape span sound)
    (omega (arith, is_span.least))
