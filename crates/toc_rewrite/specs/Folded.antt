-- What contracts see of foldable slots.
use Rattle.std.specs.Prelude.{◌≡◌, ℕ, Bool, false, List, ◌&&◌, ◌==◌, length, map, Option, None, Some, Contains}
use Rattle.std.specs.List.{list_any, range_with_len}
use Rattle.std.specs.List.Sorted.{IsPermutation}
use Rattle.object_set.specs.declared.places.RecordId.{RecordId}
use Rattle.toc_rewrite.specs.declared.found.Slot.{Slot}
use Rattle.toc_rewrite.specs.Laid.{LaidFiles}
use Rattle.toc_rewrite.specs.Records.{facts_of}
use Rattle.toc_rewrite.specs.Folds.{is_orderly, slot_address, slot_records, is_foldable}

-- whether each file is orderly, and the foldable slots
pub record FoldedSlots : Type 0 where
  pub orderly : List Bool
  pub slots : List Slot

-- the slot that a record fills
abbrev pub slot_of : LaidFiles → RecordId → Slot
slot_of laid r = record { id = r; offset = (facts_of laid.files r).offset; address = slot_address laid r }

-- a slot lies at an offset of a section of a file
abbrev pub is_slot_at : ℕ → ℕ → ℕ → Slot → Bool
is_slot_at file section offset s = s.id.file == file && s.id.section == section && s.offset == offset

-- one of the foldable slots does
abbrev pub folded_in : FoldedSlots → ℕ → ℕ → ℕ → Bool
folded_in f file section offset = list_any (is_slot_at file section offset) f.slots

-- a slot of a file begins at a number
abbrev pub is_slot_named : ℕ → ℕ → Slot → Bool
is_slot_named file number s = s.id.file == file && s.address == number

-- this is one of the foldable slots of which that is so, or there is none
pub record IsNamedSlot (f : FoldedSlots) (file number : ℕ) (s : Slot) : Type 0 where
  pub one : Contains f.slots s
  pub file_is : s.id.file ≡ file
  pub begins : s.address ≡ number

abbrev pub IsNamed : FoldedSlots → ℕ → ℕ → Option Slot → Type 0
IsNamed f file number None = list_any (is_slot_named file number) f.slots ≡ false
IsNamed f file number (Some s) = IsNamedSlot f file number s

-- these are the foldable slots of files
pub record AreFolds (laid : LaidFiles) (f : FoldedSlots) : Type 0 where
  pub orderly : f.orderly ≡ map (is_orderly laid.files) (range_with_len 0 (length laid.files))
  pub slots : IsPermutation (map (slot_of laid) (slot_records laid)) f.slots
  pub count : length f.slots ≡ length (slot_records laid)
  pub folded : (file section offset : ℕ) → folded_in f file section offset ≡ is_foldable laid file section offset
