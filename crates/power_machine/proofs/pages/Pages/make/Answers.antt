-- The pages that were made are kept ..
use Rattle.std.proofs.Common.{◌∙◌, ap, arith, length}
use Rattle.power_machine.specs.inside.Paged.{kept_in, also_from}
use Rattle.power_machine.proofs.Paging.{made_pages, made_bytes, fresh_count}
use Rattle.power_machine.proofs.pages.Pages.make.Goals as goal

pub returns-clause-kept : goal.returns-clause-kept
returns-clause-kept c =
    made_pages c.args.self.now c.install_all.new.self c.args.first _ c.install_all.ensures.made
    ∙ ap (also_from (kept_in c.args.self.now) c.args.first)
    (let e = ap length c.deref.ensures.value in let f = ap length c.self.view_is in
    fresh_count c.deref.result.now _ c.args.first c.args.stop c.in_ok-fresh.ensures (omega
    (arith, e, f, c.requires.within)) c.requires.some)

-- .. and no byte changes.
pub returns-clause-bytes : goal.returns-clause-bytes
returns-clause-bytes c = made_bytes c.args.self.now c.install_all.new.self c.args.first _ c.install_all.ensures.made
