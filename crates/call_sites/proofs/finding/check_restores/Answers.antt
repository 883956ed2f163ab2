-- loop-site-preserved: a site passes. returns-then-not-site: a site doesn't.
use Rattle.std.proofs.Common.{rules}
use Rattle.call_sites.proofs.SitesLeft.{site_stops}
use Rattle.call_sites.proofs.finding.check_restores.Goals as goal

pub returns-then-not-site : goal.returns-then-not-site
returns-then-not-site c =
    site_stops c.args.sites.now c.loop-site.site-index _ c.loop-site-test.true c.loop-site.invariant (search rules)
