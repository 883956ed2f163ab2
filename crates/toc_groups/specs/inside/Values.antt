-- Targets that have an address.
use Rattle.std.specs.Prelude.{ℕ, ◌<◌, List, length}
use Rattle.symbol_table.specs.declared.target.Target.{Target}
use Rattle.symbol_table.specs.declared.target.Target.TheVariants.{Data, Code, Number, TocBase, WeakNone}

-- where a target lies in text, its section has an address
abbrev pub IsPlacedTarget : List ℕ → Target → Type 0
IsPlacedTarget text (Data piece addend) = Unit {0}
IsPlacedTarget text (Code section offset) = section < length text
IsPlacedTarget text (Number n) = Unit {0}
IsPlacedTarget text (TocBase file addend) = Unit {0}
IsPlacedTarget text (WeakNone addend) = Unit {0}
