-- They lie on one page.
use Rattle.std.proofs.Common.{arith, ap, length}
use Rattle.power_machine.proofs.Paging.{page_pushed}
use Rattle.power_machine.proofs.pages.Pages.push_on.Goals as goal

pub returns : goal.returns
returns c =
    page_pushed c.self.inside.list.items c.args.self.now c.index.result.now c.args.at c.args.count c.args.bytes.now.items _ c.self.view_is
    (let e = ap length c.self.view_is in omega (arith, e, c.requires.within, c.requires.some)) c.index.ensures c.requires.on_page
    c.in_ok-push_to.ensures
