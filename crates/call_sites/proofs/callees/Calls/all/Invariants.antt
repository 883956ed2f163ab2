use Rattle.std.proofs.Common.{◌≡◌, map}
use Rattle.object_set.specs.Walks.{items_before}
use Rattle.call_sites.specs.Sites.{call_site, call_walk}
use Rattle.call_sites.proofs.callees.Calls.all.Given as goal

-- the sites of the first files are here
abbrev pub invariant-loop-file : goal.invariant-loop-file
invariant-loop-file l = l.sites.items ≡ map (call_site l.self.files l.self.groups) (items_before call_walk l.self.files l.file)
