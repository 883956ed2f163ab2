-- The start of the machine of places on a program's data.
use Rattle.std.specs.Prelude.{◌≡◌, false, List, [], Some, None, replicate, slice_set}
use Rattle.elf64_exec.specs.declared.layout.Segment.{Segment}
use Rattle.power_machine.specs.Memory.{put}
use Rattle.power_machine.specs.Start.{start_ranges, start_byte}
use Rattle.plain_machine.specs.declared.machine.PlainMachine.{PlainMachine}
use Rattle.plain_machine.specs.declared.place.TextPlace.{TextPlace}
use Rattle.plain_machine.specs.declared.pointer.PlacedPointer.{PlacedPointer}
use Rattle.plain_machine.specs.declared.pointer.Pointer.{Pointer}
use Rattle.plain_machine.specs.declared.pointer.Pointer.TheVariants.{Address, Difference as Less, Unknown}
use Rattle.plain_machine.specs.declared.start.Program.{Program}
use Rattle.plain_machine.specs.declared.value.PlainValue.{PlainValue}
use Rattle.plain_machine.specs.declared.value.PlainValue.TheVariants.{Number, Code}
use Rattle.plain_machine.specs.declared.value.Cell.{Cell}
use Rattle.plain_machine.specs.declared.value.Cell.TheVariants as cell
use Rattle.plain_machine.specs.Actions.{guarded, stack_pointer, entry_register}
use Rattle.plain_machine.specs.Plain.{PlainState, junk_cells}
use Rattle.plain_machine.specs.Values.{code_cells, difference_cells}
use Rattle.plain_machine.specs.inside.Core.{plain_state, core_may}

abbrev pub start_registers : TextPlace → List PlainValue
start_registers entry = slice_set (slice_set (replicate 34 (Number 0)) stack_pointer (Number 0x7FFFF000)) entry_register (Code entry)

abbrev pub start_state : TextPlace → List Segment → PlainState
start_state entry segments = record {
  at = entry;
  registers = start_registers entry;
  condition = replicate 32 (Some false);
  byte = λ a. cell.Number (start_byte segments a);
}

-- what a pointer puts into memory
abbrev pub pointer_cells : Pointer → List Cell
pointer_cells (Address p) = code_cells p
pointer_cells (Less p n) = difference_cells p n
pointer_cells (Unknown width) = junk_cells width

-- the state with a pointer at its address
abbrev pub held_state : PlainState → PlacedPointer → PlainState
held_state s q = record {
  at = s.at;
  registers = s.registers;
  condition = s.condition;
  byte = put s.byte q.at (pointer_cells q.pointer);
}

pub record IsStart (program : Program) (segments : List Segment) (m : PlainMachine) : Type 0 where
  pub state : plain_state m.core ≡ start_state program.entry segments
  pub may : core_may m.core ≡ guarded (start_ranges segments) program.kept.items
  pub sizes : m.core.sizes ≡ program.sizes
  pub events : m.events.items ≡ []
  pub ended : m.ended ≡ None
