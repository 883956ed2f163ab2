-- What is left is the same exactly where all is.
use Rattle.std.proofs.Common.{◌≡◌, ◌+◌, ◌-◌, length, drop}
use Rattle.power_machine.specs.Memory.{bytes_from}
use Rattle.plain_machine.specs.Values.{same_cells}
use Rattle.plain_machine.specs.inside.Memory.{cell_at}
use Rattle.plain_machine.proofs.memory.PlainMemory.has.Given as goal

abbrev pub invariant-loop-i : goal.invariant-loop-i
invariant-loop-i l =
    same_cells (bytes_from (cell_at l.self) (l.at + l.i) (length l.cells - l.i)) (drop l.i l.cells)
    ≡ same_cells (bytes_from (cell_at l.self) l.at (length l.cells)) l.cells
