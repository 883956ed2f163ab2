use Rattle.image_writer.proofs.Bases.{bases_low}
use Rattle.image_writer.proofs.BranchReach.{branches_reach}
use Rattle.image_writer.proofs.places.branches_reach.Goals as goal

-- by what the layout gives, and by where data lies
pub returns : goal.returns
returns c = λ files plan sites t far p w whole job pairs.
    branches_reach files plan sites t far p whole job (c.layouts_give.ensures files plan sites t far p job) w
    (bases_low files plan job.plan_is (c.data_is_placed.ensures files plan.span whole job.data_fits))
