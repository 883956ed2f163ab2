-- What memory stands for.
use Rattle.std.specs.Prelude.{◌≡◌, ℕ, Bool, true, false, ◌&&◌, not, List, [], ◌∷◌, Option, Some, None, if◌then◌else◌}
use Rattle.power_insns.specs.declared.meaning.Width.{Width}
use Rattle.power_insns.specs.declared.meaning.Sign.{Sign}
use Rattle.power_insns.specs.Arithmetic.{bytes_of}
use Rattle.power_machine.specs.declared.memory.Purpose.TheVariants.{Loading, Storing}
use Rattle.power_machine.specs.Memory.{Permission, bytes_from, put, byte_at, ranges_of}
use Rattle.plain_machine.specs.declared.memory.PlainMemory.{PlainMemory}
use Rattle.power_machine.specs.declared.memory.Stored.{Stored}
use Rattle.power_machine.specs.declared.memory.Stored.TheVariants.{Whole, Outside, Refused}
use Rattle.plain_machine.specs.declared.value.Cell.{Cell}
use Rattle.plain_machine.specs.declared.value.Cell.TheVariants as cell
use Rattle.plain_machine.specs.declared.value.PlainValue.{PlainValue}
use Rattle.plain_machine.specs.Plain.{joined}
use Rattle.plain_machine.specs.Values.{same_cells}
use Rattle.plain_machine.specs.Actions.{guarded}
use Rattle.plain_machine.specs.inside.Others.{other_at, is_number}

-- a byte that is a number in other cells is the number that stands there
abbrev pub told : Cell → ℕ → Cell
told (cell.Number k) n = cell.Number n
told (cell.Code p i) n = cell.Code p i
told (cell.Slot p i) n = cell.Slot p i
told (cell.Difference p m i) n = cell.Difference p m i
told cell.Junk n = cell.Junk

-- the cell at an address
abbrev pub cell_at : PlainMemory → ℕ → Cell
cell_at m a = told (other_at m.others a) (byte_at m.numbers.regions.items a)

-- what may be done with so many bytes
abbrev pub memory_may : PlainMemory → Permission
memory_may m = guarded (ranges_of m.numbers.regions.items) m.kept

-- none of the cells is a number
abbrev pub are_special : List Cell → Bool
are_special [] = true
are_special (c ∷ cells) = not (is_number c) && are_special cells

-- the value at an address, where it may be loaded
abbrev pub value_read : Width → Sign → ℕ → PlainMemory → Option PlainValue
value_read width sign at m =
    if memory_may m Loading at (bytes_of width) then Some (joined width sign (bytes_from (cell_at m) at (bytes_of width))) else None

-- memory is as it was
pub record IsSame (old new : PlainMemory) : Type 0 where
  pub cells_are : cell_at new ≡ cell_at old
  pub same_may : memory_may new ≡ memory_may old

-- cells stand at an address now
pub record Holds (old new : PlainMemory) (at : ℕ) (cells : List Cell) : Type 0 where
  pub cells_are : cell_at new ≡ put (cell_at old) at cells
  pub same_may : memory_may new ≡ memory_may old

-- cells stand at an address now, where so many may be stored
pub record HasStored (old new : PlainMemory) (at room : ℕ) (cells : List Cell) : Type 0 where
  pub allowed : memory_may old Storing at room ≡ true
  pub cells_are : cell_at new ≡ put (cell_at old) at cells
  pub same_may : memory_may new ≡ memory_may old

pub record IsOutside (old new : PlainMemory) (at room : ℕ) : Type 0 where
  pub refused : memory_may old Storing at room ≡ false
  pub same : IsSame old new

-- what became of cells that were to be stored
abbrev pub Stores : PlainMemory → PlainMemory → ℕ → ℕ → List Cell → Stored → Type 0
Stores old new at room cells Whole = HasStored old new at room cells
Stores old new at room cells Outside = IsOutside old new at room
Stores old new at room cells Refused = IsSame old new

-- whether eight cells stand at an address, where they may be loaded
abbrev pub held_at : PlainMemory → ℕ → List Cell → Option Bool
held_at m at cells = if memory_may m Loading at 8 then Some (same_cells (bytes_from (cell_at m) at 8) cells) else None
