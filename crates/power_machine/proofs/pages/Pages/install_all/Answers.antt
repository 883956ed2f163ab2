-- The next fresh page is for the next page ..
use Rattle.std.proofs.Common.{arith, ap, length, ◌+◌}
use Rattle.power_machine.proofs.Paging.{next_fresh, more_made, fits_long}
use Rattle.power_machine.proofs.pages.Pages.install_all.Goals as goal

pub install-requires-clause-fresh : goal.install-requires-clause-fresh
install-requires-clause-fresh c =
    next_fresh c.args.self.now c.loop-page.self c.args.first c.loop-page.index c.in-Some.page _ _ c.in-Some.ensures.steps.0
    c.loop-page.invariant.made c.loop-page.invariant.fresh

pub overflow_add-index : goal.overflow_add-index
overflow_add-index c =
    let l = ap length c.in-Some.ensures.steps.0 in
    fits_long (c.loop-page.index + 1) (omega (arith, l, c.loop-page.invariant.place, c.requires.few))

-- .. and with it one page more is made.
pub loop-page-preserved : goal.loop-page-preserved
loop-page-preserved c =
    more_made c.args.self.now c.loop-page.self c.install.new.self c.args.first c.loop-page.index _ c.in-Some.page _ _
    c.in-Some.ensures.steps.0 c.loop-page.invariant.place c.loop-page.invariant.least c.loop-page.invariant.len
    c.loop-page.invariant.made c.loop-page.invariant.fresh c.install.ensures.len c.install.ensures.made
