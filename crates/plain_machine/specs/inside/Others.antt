-- Bytes of memory that are no numbers, by doublewords.
use Rattle.std.specs.Prelude.{ℕ, zero, suc, ◌+◌, ◌-◌, ◌/◌, ◌%◌, Bool, true, false, ◌&&◌, ◌==◌, List, length, Option, Some, None, nat_eq, nat_le, nat_lt, slice_index_or, if◌then◌else◌}
use Rattle.std.specs.HashMap.{get}
use Rattle.power_machine.specs.Memory.{put}
use Rattle.plain_machine.specs.declared.others.Others.{Others}
use Rattle.plain_machine.specs.declared.value.Cell.{Cell}
use Rattle.plain_machine.specs.declared.value.Cell.TheVariants as cell

-- cell k of a doubleword; where there is none all are numbers
abbrev pub entry_in : Option (List Cell) → ℕ → Cell
entry_in None k = cell.Number 0
entry_in (Some cells) k = slice_index_or cells k (cell.Number 0)

abbrev pub get_at : Others → ℕ → Option (List Cell)
get_at o number = get nat_eq o.doublewords number

-- the cell at an address
abbrev pub other_at : Others → ℕ → Cell
other_at o a = entry_in (get_at o (a / 8)) (a % 8)

-- cells from an address on, over those of a doubleword that begins at another
abbrev pub merged_at : (ℕ → Cell) → ℕ → ℕ → List Cell → ℕ → Cell
merged_at own start at cells k =
    if nat_le at (start + k) && nat_lt (start + k) (at + length cells) then slice_index_or cells (start + k - at) (own k) else own k

abbrev pub cell_none : Cell
cell_none = cell.Number 0

-- cells put at an address, of which only those count that lie in a doubleword
abbrev pub put_where : ℕ → (ℕ → Cell) → ℕ → List Cell → ℕ → Cell
put_where number own at cells a = if a / 8 == number then put own at cells a else own a

-- numbers in so many bytes from an address on, in a doubleword that begins at another
abbrev pub cleared_at : (ℕ → Cell) → ℕ → ℕ → ℕ → ℕ → Cell
cleared_at own start at count k = if nat_le at (start + k) && nat_lt (start + k) (at + count) then cell.Number 0 else own k

abbrev pub cleared_where : ℕ → (ℕ → Cell) → ℕ → ℕ → ℕ → Cell
cleared_where number own at count a = if a / 8 == number then cleared_at own 0 at count a else own a

abbrev pub is_number : Cell → Bool
is_number (cell.Number n) = true
is_number (cell.Code p i) = false
is_number (cell.Slot p i) = false
is_number (cell.Difference p n i) = false
is_number cell.Junk = false

-- so many bytes from an address on are numbers
abbrev pub are_numbers : (ℕ → Cell) → ℕ → ℕ → Bool
are_numbers f at zero = true
are_numbers f at (suc n) = is_number (f at) && are_numbers f (at + 1) n
