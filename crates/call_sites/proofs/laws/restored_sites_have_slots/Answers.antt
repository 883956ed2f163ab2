-- returns: a site that isn't refused.
use Rattle.call_sites.specs.laws.SiteOrder.{sites_restored}
use Rattle.call_sites.proofs.laws.restored_sites_have_slots.Goals as goal

pub returns : goal.returns
returns c = λ files groups k site passes found restore. sites_restored files groups k site passes found restore
