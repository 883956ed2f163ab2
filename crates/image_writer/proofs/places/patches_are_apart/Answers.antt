use Rattle.image_writer.proofs.Holding.{all_apart}
use Rattle.image_writer.proofs.places.patches_are_apart.Goals as goal

-- by what the layout gives
pub returns : goal.returns
returns c = λ files plan sites t far p w whole job pairs.
    all_apart files plan sites t far p whole job (c.layouts_give.ensures files plan sites t far p job) w pairs
