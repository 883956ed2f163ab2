use Rattle.image_writer.proofs.LaidAddresses.{has_addresses}
use Rattle.image_writer.proofs.addresses.plans_have_addresses.Goals as goal

-- data lies where each address is low
pub returns : goal.returns
returns c = λ files span plan whole is.
    has_addresses files span (c.data_is_placed.ensures files span whole is.fits) plan is
