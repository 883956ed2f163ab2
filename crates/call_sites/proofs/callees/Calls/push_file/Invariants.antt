use Rattle.std.proofs.Common.{◌≡◌, ◌++◌, map, take}
use Rattle.call_sites.specs.Sites.{call_site}
use Rattle.call_sites.proofs.callees.Calls.push_file.Given as goal

-- the sites of the first calls stand behind the others
abbrev pub invariant-loop-call : goal.invariant-loop-call
invariant-loop-call l =
    l.sites.items ≡ l.fn.sites.items ++ map (call_site l.self.files l.self.groups) (take l.call-index l.call-items)
