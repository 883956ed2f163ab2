-- Slots while they are numbered.
use Rattle.std.specs.Prelude.{ℕ, ◌≡◌, ◌<◌, Bool, true, false, not, List, ◌||◌, ◌&&◌, ◌==◌, length, position, Option, Some, None, is_some}
use Rattle.std.specs.List.{list_any, slice_index_or}
use Rattle.std.specs.Str.{bytes_eq}
use Rattle.std.specs.Borrow.{Bor}
use Rattle.std.specs.BTreeMap.{BTreeMap, get_by}
use Rattle.std.specs.Cmp.Lexicographic.{slice_cmp}
use Rattle.std.specs.Ordering.{nat_cmp}
use Rattle.elf64_records.specs.Symbols.{symbol_count}
use Rattle.object_set.specs.declared.places.SymbolId.{SymbolId}
use Rattle.object_set.specs.Files.{file_at}
use Rattle.object_set.specs.Symbols.{name_of, is_local}
use Rattle.toc_groups.specs.Slots.{symbol_id, shares_slot, with_slots}

-- files, and the slots of some of them
pub record SlotList : Type 0 where
  pub files : List (List ℕ)
  pub slots : List SymbolId

abbrev pub slot_list : List (List ℕ) → List SymbolId → SlotList
slot_list files slots = record { files = files; slots = slots }

-- other files see a symbol, and it has this name
abbrev pub bears : List (List ℕ) → List ℕ → SymbolId → Bool
bears files name s = not (is_local (file_at files s.file) s.symbol) && bytes_eq name (name_of (file_at files s.file) s.symbol)

-- what a map gives for a name is the number of the slot for it
abbrev pub AreNamed : List (List ℕ) → List SymbolId → BTreeMap (Bor (List ℕ)) ℕ → Type 0
AreNamed files slots names =
    (name : List ℕ) → get_by (λ q. slice_cmp nat_cmp name q.now) names ≡ position (bears files name) slots

-- a slot was made for symbol j of a file
abbrev pub is_symbol : ℕ → ℕ → SymbolId → Bool
is_symbol file j s = file == s.file && j == s.symbol

-- a symbol that only its file sees has no slot yet
abbrev pub IsNew : SlotList → SymbolId → Type 0
IsNew l symbol =
    is_local (file_at l.files symbol.file) symbol.symbol ≡ true → list_any (is_symbol symbol.file symbol.symbol) l.slots ≡ false

-- numbers of slots of a file's symbols: what isn't numbered has no slot that was made for it
pub record IsRow (l : SlotList) (file : ℕ) (row : List (Option ℕ)) : Type 0 where
  pub count : length row ≡ symbol_count (file_at l.files file)
  pub some : (j k : ℕ) → slice_index_or row j None ≡ Some k → position (shares_slot l.files (symbol_id file j)) l.slots ≡ Some k
  pub none : (j : ℕ) → slice_index_or row j None ≡ None → list_any (is_symbol file j) l.slots ≡ false

-- just these symbols are numbered more than before
pub record Notes (named : List SymbolId) (old new : List (Option ℕ)) : Type 0 where
  pub each : (j : ℕ) →
      j < length new →
      is_some (slice_index_or new j None) ≡ (is_some (slice_index_or old j None) || list_any (λ s. s.symbol == j) named)

-- these symbols of a file come to slots and to the numbers of its slots
pub record Adds (named : List SymbolId) (file : ℕ) (old new : SlotList) (old_row new_row : List (Option ℕ)) : Type 0 where
  pub slots : new ≡ slot_list old.files (with_slots old.files old.slots named)
  pub row : IsRow new file new_row
  pub noted : Notes named old_row new_row
