use Rattle.layout_rounds.specs.FarSets.{member}
use Rattle.image_writer.proofs.ToldPlaces.{told}
use Rattle.image_writer.proofs.places.places_tell_a_text.Goals as goal

-- each address is of one of the cases
pub returns : goal.returns
returns c = λ files plan sites t far p w whole job pairs. λ one other holds holds_too a low high.
    told files plan sites t (member far) p w one other holds holds_too a low high
