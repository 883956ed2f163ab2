-- Bytes of doublewords that were never told are numbers.
use Rattle.std.proofs.Common.{◌∙◌, sym}
use Rattle.plain_machine.proofs.Numbered.{untouched_numbers}
use Rattle.plain_machine.proofs.others.Others.are_numbers.Goals as goal

pub returns-then-not-is_touched-2 : goal.returns-then-not-is_touched-2
returns-then-not-is_touched-2 c =
    sym (untouched_numbers c.args.self.now c.args.at c.args.count c.if-count-le8.true c.if-count-gt0.true
    (sym c.is_touched.ensures ∙ c.if-not-is_touched.true)
    (sym c.is_touched-then-not-is_touched.ensures ∙ c.if-not-is_touched-2.true))
