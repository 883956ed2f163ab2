-- What holds something is put and kept ..
use Rattle.std.proofs.Common.{sym}
use Rattle.power_machine.proofs.Tight.{skips, stays_tight}
use Rattle.power_machine.proofs.pages.Pages.load.Goals as goal

pub returns-clause-tight : goal.returns-clause-tight
returns-clause-tight c tight =
    stays_tight c.args.self.now c.write.new.self c.args.from c.args.bytes.now c.requires.on_page c.requires.nothing
    (sym c.if-not-has_some.ensures) c.in_ok-write.ensures.kept c.in_ok-write.ensures.bytes tight

-- .. and zeros change nothing.
pub returns-then-not-has_some-clause-bytes : goal.returns-then-not-has_some-clause-bytes
returns-then-not-has_some-clause-bytes c =
    skips c.args.self.now c.args.from c.args.bytes.now c.requires.nothing (sym c.if-not-has_some.ensures)
