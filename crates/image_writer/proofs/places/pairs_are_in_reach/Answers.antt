use Rattle.image_writer.proofs.PairReach.{pair_reaches}
use Rattle.image_writer.proofs.places.pairs_are_in_reach.Goals as goal

-- by what the layout gives, and by where data lies
pub returns : goal.returns
returns c = λ files plan sites t far p w whole job pairs. λ r kind tail is found.
    pair_reaches files plan sites t far p whole job (c.layouts_give.ensures files plan sites t far p job) w pairs
    (c.data_is_placed.ensures files plan.span whole job.data_fits) r kind is tail found
