-- Bytes of a page that isn't kept spell 0.
use Rattle.std.proofs.Common.{sym, ◌∙◌}
use Rattle.power_insns.specs.Arithmetic.{bytes_of}
use Rattle.power_machine.proofs.Paging.{none_spells}
use Rattle.power_machine.proofs.pages.Page.number_at.Goals as goal

pub returns-else-is_kept-clause-value : goal.returns-else-is_kept-clause-value
returns-else-is_kept-clause-value c =
    none_spells c.args.self.now c.args.at (bytes_of c.args.width) (sym c.is_kept.ensures ∙ c.if-is_kept.false)
