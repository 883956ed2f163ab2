-- Places of a file in order.
use Rattle.std.specs.Prelude.{ℕ, ◌+◌, ◌*◌, ◌^◌, Bool, ◌&&◌, ◌==◌}
use Rattle.symbol_table.specs.declared.places.FilePlace.{FilePlace}

-- a number that grows with the section and, in a section, with the offset
abbrev pub rank : FilePlace → ℕ
rank p = p.section * 2 ^ 64 + p.offset

-- a place is this offset of this section
abbrev pub is_place : ℕ → ℕ → FilePlace → Bool
is_place section at p = p.section == section && p.offset == at
