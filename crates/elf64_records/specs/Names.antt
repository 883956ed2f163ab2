-- String tables (ELF64, "String Table"): a name runs from its start to the first zero byte.
use Rattle.std.specs.Prelude.{ℕ, ◌≡◌, Bool, List, drop, ◌==◌, nat_lt}
use Rattle.std.specs.List.{before_first, list_any}

-- whether a zero byte stands at or after a place of a table
abbrev pub has_zero_from : List ℕ → ℕ → Bool
has_zero_from table start = list_any (λ c. c == 0) (drop start table)

-- the name at a place of a table: the bytes from there to the first zero byte
abbrev pub name_at : List ℕ → ℕ → List ℕ
name_at table start = before_first (λ c. c == 0) (drop start table)

-- a zero byte stands at or after exactly the places below this one
abbrev pub IsZeroEnd : List ℕ → ℕ → Type 0
IsZeroEnd table end = (start : ℕ) → has_zero_from table start ≡ nat_lt start end
