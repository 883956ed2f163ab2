use Rattle.std.proofs.Common.{◌≡◌, ◌<◌, drop, length}
use Rattle.std.specs.List.{slice_index_or}
use Rattle.call_sites.specs.declared.site.CallSite.{CallSite}
use Rattle.image_writer.specs.JobShape.{classed_sites}
use Rattle.image_writer.proofs.shape.call_numbered.Given as goal

-- the call is so far among those that are left
abbrev pub invariant-loop-site : goal.invariant-loop-site
invariant-loop-site l = record {
  same : (d : CallSite) →
      slice_index_or (classed_sites l.sites) l.number d ≡ slice_index_or (classed_sites (drop l.site-index l.sites)) l.left d;
  within : l.left < length (classed_sites (drop l.site-index l.sites));
}
