use Rattle.std.proofs.Common.{◌≡◌, take}
use Rattle.image_writer.specs.JobShape.{shape_sites}
use Rattle.image_writer.proofs.shape.shape_sites.Given as goal

-- the calls so far
abbrev pub invariant-loop-site : goal.invariant-loop-site
invariant-loop-site l = l.shapes.items ≡ shape_sites (take l.site-index l.sites)
