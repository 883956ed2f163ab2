-- A fresh page is whole.
use Rattle.std.proofs.Common.{sym, ◌<◌, length, subst}
use Rattle.power_machine.proofs.Paging.{installed, kept_is}
use Rattle.power_machine.proofs.pages.Pages.install.Goals as goal

pub invariant_of-self : goal.invariant_of-self
invariant_of-self c =
    let within = subst (λ p. c.args.index < length p) (sym c.self.view_is) c.requires.within in
    (installed c.self.inside.list.items c.args.self.now c.args.index c.args.page c.self.invariant c.self.view_is within
    (kept_is c.self.inside.list.items c.args.index _ _ within c.index.ensures c.if-not-is_kept.ensures) c.requires.fresh).whole
