use Rattle.image_writer.proofs.TextPlaces.{text_holds}
use Rattle.image_writer.proofs.places.text_stands_place_by_place.Goals as goal

-- by what the layout gives
pub returns : goal.returns
returns c = λ files plan sites t far p w whole job pairs.
    text_holds files plan sites t far p whole job (c.layouts_give.ensures files plan sites t far p job) w pairs
