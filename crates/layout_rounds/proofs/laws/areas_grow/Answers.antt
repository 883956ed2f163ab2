-- returns: a far stub is no shorter than a near one, and so are sums of them, and sums rounded up.
use Rattle.layout_rounds.specs.Shapes.{keyed_text}
use Rattle.layout_rounds.proofs.Growth.{area_grows}
use Rattle.layout_rounds.proofs.Called.{are_calls}
use Rattle.layout_rounds.proofs.laws.areas_grow.Goals as goal

pub returns : goal.returns
returns c shape span F G sound is_span sub g =
    area_grows (keyed_text shape span) (are_calls shape span sound).keyed F G sub g
