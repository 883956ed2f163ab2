-- Values of a run that knows no code addresses: when two are the same, and the bytes of which they are made in memory.
use Rattle.std.specs.Prelude.{ℕ, ℤ, Bool, true, false, ◌&&◌, ◌==◌, List, [], ◌∷◌, map, Option, Some, None}
use Rattle.std.specs.List.{range_with_len}
use Rattle.std.specs.Ordering.{int_eq}
use Rattle.plain_machine.specs.declared.place.TextPlace.{TextPlace}
use Rattle.plain_machine.specs.declared.value.PartTarget.{PartTarget}
use Rattle.plain_machine.specs.declared.value.PartTarget.TheVariants as target
use Rattle.plain_machine.specs.declared.value.Part.{Part}
use Rattle.plain_machine.specs.declared.value.Part.TheVariants as part
use Rattle.plain_machine.specs.declared.value.PlainValue.{PlainValue}
use Rattle.plain_machine.specs.declared.value.PlainValue.TheVariants.{Number, Code, Part as Half, Pair, Difference}
use Rattle.plain_machine.specs.declared.value.Cell.{Cell}
use Rattle.plain_machine.specs.declared.value.Cell.TheVariants as cell

abbrev pub same_place : TextPlace → TextPlace → Bool
same_place p q = p.section == q.section && p.offset == q.offset

abbrev pub same_target : PartTarget → PartTarget → Bool
same_target (target.Toc n) (target.Toc m) = n == m
same_target target.Elsewhere target.Elsewhere = true
same_target (target.Place p) (target.Place q) = same_place p q
same_target a b = false

abbrev pub same_high : Option ℤ → Option ℤ → Bool
same_high None None = true
same_high (Some h) (Some k) = int_eq h k
same_high a b = false

-- two parts agree: the one may be used where the other is wanted
abbrev pub same_part : Part → Part → Bool
same_part (part.Toc f t h) (part.Toc g u k) = f == g && (same_target t u && same_high h k)
same_part (part.Adjusted p) (part.Adjusted q) = same_place p q
same_part (part.High p) (part.High q) = same_place p q
same_part (part.Prologue p) (part.Prologue q) = same_place p q
same_part a b = false

-- of Junk nothing is known, not even that it is the same
abbrev pub same_value : PlainValue → PlainValue → Bool
same_value (Number n) (Number m) = n == m
same_value (Code p) (Code q) = same_place p q
same_value (Half a) (Half b) = same_part a b
same_value (Pair p) (Pair q) = same_place p q
same_value (Difference p n) (Difference q m) = same_place p q && n == m
same_value a b = false

-- the pieces of a place's address, of a saved TOC base, and of a difference, the lowest first
abbrev pub code_cells : TextPlace → List Cell
code_cells p = map (cell.Code p) (range_with_len 0 8)

abbrev pub slot_cells : TextPlace → List Cell
slot_cells site = map (cell.Slot site) (range_with_len 0 8)

abbrev pub difference_cells : TextPlace → ℕ → List Cell
difference_cells p n = map (cell.Difference p n) (range_with_len 0 4)

abbrev pub same_cell : Cell → Cell → Bool
same_cell (cell.Number n) (cell.Number m) = n == m
same_cell (cell.Code p i) (cell.Code q j) = same_place p q && i == j
same_cell (cell.Slot p i) (cell.Slot q j) = same_place p q && i == j
same_cell (cell.Difference p n i) (cell.Difference q m j) = same_place p q && (n == m && i == j)
same_cell a b = false

abbrev pub same_cells : List Cell → List Cell → Bool
same_cells [] [] = true
same_cells (a ∷ xs) (b ∷ ys) = same_cell a b && same_cells xs ys
same_cells xs ys = false
