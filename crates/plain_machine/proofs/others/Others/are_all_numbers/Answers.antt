-- A turn passes a number.
use Rattle.std.proofs.Common.{◌∙◌, sym}
use Rattle.plain_machine.specs.inside.Others.{other_at, is_number}
use Rattle.std.proofs.Common.{ap}
use Rattle.plain_machine.proofs.Numbered.{next_number}
use Rattle.plain_machine.proofs.others.Others.are_all_numbers.Goals as goal

pub loop-k-preserved : goal.loop-k-preserved
loop-k-preserved c =
    next_number (other_at c.args.self.now) c.args.at c.args.count c.loop-k.k c.loop-k-test.true
    (ap is_number (sym c.at.ensures) ∙ sym c.is_number.ensures ∙ c.if-not-is_number.false)
    ∙ c.loop-k.invariant
