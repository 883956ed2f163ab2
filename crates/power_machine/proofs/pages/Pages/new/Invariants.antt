use Rattle.std.proofs.Common.{◌≡◌, replicate, []}
use Rattle.power_machine.proofs.pages.Pages.new.Given as goal

abbrev pub invariant-loop : goal.invariant-loop
invariant-loop l = l.list.items ≡ replicate l.counter []
