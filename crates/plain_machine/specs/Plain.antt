-- What the machine of places computes: numbers as every machine does, and of other values what holds wherever text is laid out.
use Rattle.std.specs.Prelude.{ℕ, ◌+◌, ◌-◌, ◌*◌, ◌/◌, ◌%◌, ◌^◌, Bool, false, ◌&&◌, ◌==◌, nat_lt, List, [], ◌∷◌, map, replicate, take, Option, Some, None, if◌then◌else◌}
use Rattle.power_insns.specs.declared.meaning.Width.{Width}
use Rattle.power_insns.specs.declared.meaning.Width.TheVariants.{Byte, Half, Word, Long}
use Rattle.power_insns.specs.declared.meaning.Sign.{Sign}
use Rattle.power_insns.specs.declared.meaning.Sign.TheVariants.{Unsigned, Signed}
use Rattle.power_insns.specs.declared.meaning.Function.{Function}
use Rattle.power_insns.specs.declared.meaning.Function.TheVariants.{RegisterSum}
use Rattle.power_insns.specs.Arithmetic.{bytes_of, function_of, compared, widened}
use Rattle.power_machine.specs.Bytes.{spelled, bytes_of_long}
use Rattle.power_machine.specs.Calls.{with_number}
use Rattle.power_machine.specs.Machines.{Domain, State}
use Rattle.plain_machine.specs.declared.place.TextPlace.{TextPlace}
use Rattle.plain_machine.specs.declared.value.PlainValue.{PlainValue}
use Rattle.plain_machine.specs.declared.value.PlainValue.TheVariants.{Number, Code, Part, Pair, Difference, Junk}
use Rattle.plain_machine.specs.declared.value.Cell.{Cell}
use Rattle.plain_machine.specs.declared.value.Cell.TheVariants as cell
use Rattle.plain_machine.specs.Values.{same_place, code_cells, difference_cells, same_cells}

-- so many bytes behind a place, in its section; offsets wrap as addresses do
abbrev pub place_ahead : TextPlace → ℕ → TextPlace
place_ahead p n = record { section = p.section; offset = (p.offset + n) % 2 ^ 64 }

abbrev pub number_of : PlainValue → Option ℕ
number_of (Number n) = Some n
number_of (Code p) = None
number_of (Part a) = None
number_of (Pair p) = None
number_of (Difference p n) = None
number_of Junk = None

-- a number and the address of a place less a number are a place: the entries of a table of differences lead to code by a sum
abbrev pub joined_place : TextPlace → ℕ → ℕ → PlainValue
joined_place p n b = Code (place_ahead p (b + (2 ^ 64 - n)))

abbrev pub sum_of_registers : PlainValue → PlainValue → PlainValue
sum_of_registers (Number a) (Number b) = Number (function_of RegisterSum a b)
sum_of_registers (Difference p n) (Number b) = joined_place p n b
sum_of_registers (Number b) (Difference p n) = joined_place p n b
sum_of_registers x y = Junk

-- all else is computed of numbers alone
abbrev pub computed : Function → PlainValue → PlainValue → PlainValue
computed f (Number a) (Number b) = Number (function_of f a b)
computed f x y = Junk

abbrev pub calculated : Function → PlainValue → PlainValue → PlainValue
calculated RegisterSum x y = sum_of_registers x y
calculated f x y = computed f x y

-- a comparison of which nothing is known but that summary overflow is 0, and one of which also is known whether both are equal
abbrev pub unknown_order : List (Option Bool)
unknown_order = None ∷ None ∷ None ∷ Some false ∷ []

abbrev pub known_equality : Bool → List (Option Bool)
known_equality equal = None ∷ None ∷ Some equal ∷ Some false ∷ []

-- what a load of numbers gives
abbrev pub loaded_number : Width → Sign → List ℕ → PlainValue
loaded_number width sign bytes = Number (widened width sign (spelled bytes))

-- all cells are numbers
abbrev pub cell_number : Cell → Option ℕ
cell_number (cell.Number n) = Some n
cell_number (cell.Code p i) = None
cell_number (cell.Slot p i) = None
cell_number (cell.Difference p n i) = None
cell_number cell.Junk = None

abbrev pub cell_numbers : List Cell → Option (List ℕ)
cell_numbers [] = Some []
cell_numbers (c ∷ cells) = with_number (cell_number c) (cell_numbers cells)

-- what eight bytes give that aren't all numbers: the place whose address they spell in order
abbrev pub joined_code : List Cell → PlainValue
joined_code (cell.Code p i ∷ cells) = if same_cells (cell.Code p i ∷ cells) (code_cells p) then Code p else Junk
joined_code cells = Junk

-- and four bytes that are read as signed: the difference that they spell
abbrev pub joined_difference : List Cell → PlainValue
joined_difference (cell.Difference p n i ∷ cells) =
    if same_cells (cell.Difference p n i ∷ cells) (difference_cells p n) then Difference p n else Junk
joined_difference cells = Junk

abbrev pub joined_pieces : Width → Sign → List Cell → PlainValue
joined_pieces Long sign cells = joined_code cells
joined_pieces Word Signed cells = joined_difference cells
joined_pieces Word Unsigned cells = Junk
joined_pieces Half sign cells = Junk
joined_pieces Byte sign cells = Junk

abbrev pub joined_by : Width → Sign → List Cell → Option (List ℕ) → PlainValue
joined_by width sign cells (Some bytes) = loaded_number width sign bytes
joined_by width sign cells None = joined_pieces width sign cells

abbrev pub joined : Width → Sign → List Cell → PlainValue
joined width sign cells = joined_by width sign cells (cell_numbers cells)

-- what a store puts: of a place's address only all eight bytes are known
abbrev pub junk_cells : Width → List Cell
junk_cells width = replicate (bytes_of width) cell.Junk

abbrev pub code_split : Width → TextPlace → List Cell
code_split Long p = code_cells p
code_split Word p = junk_cells Word
code_split Half p = junk_cells Half
code_split Byte p = junk_cells Byte

abbrev pub split : Width → PlainValue → List Cell
split width (Number n) = map cell.Number (take (bytes_of width) (bytes_of_long n))
split width (Code p) = code_split width p
split width (Part a) = junk_cells width
split width (Pair p) = junk_cells width
split width (Difference p n) = junk_cells width
split width Junk = junk_cells width

-- instructions stand at multiples of 4: a branch clears the low two bits
abbrev pub branch_place : PlainValue → Option TextPlace
branch_place (Code p) = Some (record { section = p.section; offset = p.offset / 4 * 4 })
branch_place (Number n) = None
branch_place (Part a) = None
branch_place (Pair p) = None
branch_place (Difference p n) = None
branch_place Junk = None

-- text sections have these sizes
module _ (size_of : ℕ → ℕ) where
  -- the place of a byte of its section, so that the address is like no other's and isn't 0
  abbrev pub is_inside : TextPlace → Bool
  is_inside p = nat_lt p.offset (size_of p.section)

  abbrev pub compared_places : TextPlace → TextPlace → List (Option Bool)
  compared_places p q = if is_inside p && is_inside q then known_equality (same_place p q) else unknown_order

  abbrev pub compared_to_number : TextPlace → ℕ → List (Option Bool)
  compared_to_number p n = if is_inside p && n == 0 then known_equality false else unknown_order

  abbrev pub compared_long : PlainValue → PlainValue → List (Option Bool)
  compared_long (Code p) (Code q) = compared_places p q
  compared_long (Code p) (Number n) = compared_to_number p n
  compared_long (Number n) (Code p) = compared_to_number p n
  compared_long x y = unknown_order

  -- of others than numbers only whole registers are compared
  abbrev pub compared_values : Width → PlainValue → PlainValue → List (Option Bool)
  compared_values Long x y = compared_long x y
  compared_values Word x y = unknown_order
  compared_values Half x y = unknown_order
  compared_values Byte x y = unknown_order

  abbrev pub order_of : Width → Sign → PlainValue → PlainValue → List (Option Bool)
  order_of width sign (Number a) (Number b) = map Some (compared width sign a b)
  order_of width sign x y = compared_values width x y

  abbrev pub places : Domain PlainValue Cell (Option Bool) TextPlace
  places = record {
    num = Number;
    calculate = calculated;
    compare = order_of;
    number = number_of;
    bit = λ b. b;
    flag = Some;
    byte = cell.Number;
    byte_number = cell_number;
    join = joined;
    split = split;
    place = branch_place;
    code = Code;
    ahead = place_ahead;
  }

abbrev pub PlainState : Type 0
PlainState = State PlainValue Cell (Option Bool) TextPlace
