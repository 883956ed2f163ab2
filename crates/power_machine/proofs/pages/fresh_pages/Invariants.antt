use Rattle.std.proofs.Common.{◌≡◌, map, take}
use Rattle.power_machine.specs.inside.Paged.{fresh_for}
use Rattle.power_machine.proofs.pages.fresh_pages.Given as goal

-- fresh pages for those so far
abbrev pub invariant-loop-page : goal.invariant-loop-page
invariant-loop-page l = l.fresh.items ≡ map fresh_for (take l.page-index l.pages)
