-- What was read of a file that isn't too long is the input, and one that is too long is told by its line.
use Rattle.std.proofs.Common.{arith, ap}
use Rattle.std.specs.Option.{option_map}
use Rattle.ppclink.proofs.RunInputs.{short_input, long_report}
use Rattle.ppclink.proofs.inputs.fetch_input.Goals as goal

pub returns-then-len-gt-INPUT_LIMIT-clause-report : goal.returns-then-len-gt-INPUT_LIMIT-clause-report
returns-then-len-gt-INPUT_LIMIT-clause-report g c =
    long_report _ _ c.in-Some.name.now c.in-Ok.given.items _ c.too_long_line.result c.text_report.result
    (ap (option_map (λ i. i.now)) c.in-Some.is) c.in-Ok.ensures.kept c.in-Ok.ensures.ok
    (omega (arith, c.if-len-gt-INPUT_LIMIT.true, c.len.ensures)) c.too_long_line.ensures c.text_report.ensures

pub returns-else-len-gt-INPUT_LIMIT-clause-ok : goal.returns-else-len-gt-INPUT_LIMIT-clause-ok
returns-else-len-gt-INPUT_LIMIT-clause-ok g c =
    short_input _ c.in-Some.name.now c.in-Ok.given.items _ (ap (option_map (λ i. i.now)) c.in-Some.is) c.in-Ok.ensures.ok
    (omega (arith, c.if-len-gt-INPUT_LIMIT.false, c.len.ensures))
