-- returns: each site is that of a call whose record is sound.
use Rattle.call_sites.specs.laws.SiteOrder.{sites_sound}
use Rattle.call_sites.proofs.laws.sites_are_sound.Goals as goal

pub returns : goal.returns
returns c = λ files groups k site whole none found. sites_sound files groups whole none k site found
