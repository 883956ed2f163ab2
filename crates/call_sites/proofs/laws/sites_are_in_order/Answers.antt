-- returns: fields that stand in order, no two at one place.
use Rattle.std.proofs.Common.{◌∙◌, ap, slice_get, add-one, sym}
use Rattle.call_sites.specs.Sites.{call_sites}
use Rattle.call_sites.specs.laws.SiteOrder.{sites_in_order}
use Rattle.call_sites.proofs.laws.sites_are_in_order.Goals as goal

pub returns : goal.returns
returns c = λ files groups k a b whole none first second.
    sites_in_order files groups whole none k a b first (ap (slice_get (call_sites files groups)) (sym (add-one k)) ∙ second)
