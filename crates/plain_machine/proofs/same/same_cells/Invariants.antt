-- What is left of both lists is the same exactly where both are.
use Rattle.std.proofs.Common.{◌≡◌, drop}
use Rattle.plain_machine.specs.Values.{same_cells}
use Rattle.plain_machine.proofs.same.same_cells.Given as goal

abbrev pub invariant-loop-i : goal.invariant-loop-i
invariant-loop-i l = same_cells (drop l.i l.a) (drop l.i l.b) ≡ same_cells l.a l.b
