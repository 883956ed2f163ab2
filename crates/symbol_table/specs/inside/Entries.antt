-- The functions with two entry points of a file while they are looked up.
use Rattle.std.specs.Prelude.{◌≡◌, ◌<◌, ℕ, Bool, ◌&&◌, ◌==◌, nat_lt, List, [], ◌∷◌, if◌then◌else◌}
use Rattle.std.specs.List.{list_any}
use Rattle.elf64_records.specs.FileHeader.{e_shnum}
use Rattle.elf64_records.specs.Symbols.{st_value}
use Rattle.object_set.specs.Symbols.{has_section, index_of, entry_points}
use Rattle.symbol_table.specs.Prologue.{has_two_entries, has_recognised_prologue}
use Rattle.symbol_table.specs.inside.Places.{is_place}
use Rattle.symbol_table.specs.declared.places.FilePlace.{FilePlace}

-- the place of symbol j of a file, where its local entry point is two instructions past the global one
abbrev pub entry_at : List ℕ → ℕ → List FilePlace
entry_at b j =
    if has_section b j && entry_points b j == 3 then record { section = index_of b j; offset = st_value b j } ∷ [] else []

-- places are those of the functions of a file of which the local entry point is two instructions past the global one
abbrev pub AreEntries : List ℕ → List FilePlace → Type 0
AreEntries b places = (section at : ℕ) → list_any (is_place section at) places ≡ has_two_entries b section at

-- a place lies in a section of a file, and has a recognised prologue
abbrev pub has_prologue : ℕ → List ℕ → FilePlace → Bool
has_prologue file b p = nat_lt p.section (e_shnum b) && has_recognised_prologue file b p.section p.offset

-- places are those of recognised prologues
abbrev pub AreRecognised : ℕ → List ℕ → List FilePlace → Type 0
AreRecognised file b places =
    (section at : ℕ) → section < e_shnum b → list_any (is_place section at) places ≡ has_recognised_prologue file b section at
