-- Slots while they are judged.
use Rattle.std.specs.Prelude.{◌≡◌, ℕ, ◌+◌, ◌*◌, ◌^◌, ◌<◌, Bool, false, not, List, [], ◌∷◌, ◌++◌, ◌&&◌, ◌||◌, flat_map, if◌then◌else◌}
use Rattle.std.specs.List.{list_any, slice_index_or}
use Rattle.std.specs.List.Sorted.{IsPermutation, IsNonDecreasingBy}
use Rattle.object_set.specs.declared.places.RecordId.{RecordId}
use Rattle.toc_rewrite.specs.declared.found.Found.{Found}
use Rattle.toc_rewrite.specs.declared.found.Slot.{Slot}
use Rattle.toc_rewrite.specs.declared.folds.SlotPlace.{SlotPlace}
use Rattle.toc_rewrite.specs.declared.uses.SlotUse.{SlotUse}
use Rattle.toc_rewrite.specs.Laid.{LaidFiles, base_of}
use Rattle.toc_rewrite.specs.Records.{record_target, all_records}
use Rattle.toc_rewrite.specs.Folds.{fills_slot, reaches}
use Rattle.toc_rewrite.specs.Folded.{slot_of}
use Rattle.toc_rewrite.specs.inside.Uses.{use_of, is_below, is_above}

-- a record fills a slot with what is in reach of the TOC base
abbrev pub is_candidate : LaidFiles → RecordId → Bool
is_candidate laid r = fills_slot laid.files r && reaches laid (base_of laid r.file) (record_target laid.files r)

abbrev pub candidate_of : LaidFiles → RecordId → List Slot
candidate_of laid r = if is_candidate laid r then slot_of laid r ∷ [] else []

-- the uses that records make, and the slots that they fill, come behind others
pub record HasFound (laid : LaidFiles) (records : List RecordId) (old new : Found) : Type 0 where
  pub uses : new.uses.items ≡ old.uses.items ++ flat_map (use_of laid) records
  pub slots : new.slots.items ≡ old.slots.items ++ flat_map (candidate_of laid) records

-- those of all records
pub record HasAll (laid : LaidFiles) (found : Found) : Type 0 where
  pub uses : found.uses.items ≡ flat_map (use_of laid) (all_records laid.files)
  pub slots : found.slots.items ≡ flat_map (candidate_of laid) (all_records laid.files)

-- a number that grows with the file, in a file with the section, and in a section with the offset
abbrev pub place_rank : SlotPlace → ℕ
place_rank p = (p.file * 2 ^ 32 + p.section) * 2 ^ 64 + p.offset

-- the place of a slot
abbrev pub place_of : Slot → SlotPlace
place_of s = record { file = s.id.file; section = s.id.section; offset = s.offset }

abbrev pub slot_rank : Slot → ℕ
slot_rank s = place_rank (place_of s)

-- a number that grows with the file and, in a file, with the address
abbrev pub name_rank : Slot → ℕ
name_rank s = s.id.file * 2 ^ 64 + s.address

-- a slot of one of so many files that ends below 2^64
pub record IsLowSlot (n : ℕ) (s : Slot) : Type 0 where
  pub file_in : s.id.file < n
  pub file_low : s.id.file < 2 ^ 31
  pub room : s.address + 8 < 2 ^ 64

-- a slot of an orderly file that no use keeps
abbrev pub is_free : List Bool → List SlotUse → Slot → Bool
is_free orderly uses s =
    slice_index_or orderly s.id.file false
    && not (list_any (is_below s.id.file s.address) uses || list_any (is_above s.id.file s.address) uses)

-- slots in order of their places, and the same slots in order of their addresses
pub record AreOrdered (slots named : List Slot) : Type 0 where
  pub placed : IsNonDecreasingBy slot_rank slots
  pub same : IsPermutation slots named
  pub sorted : IsNonDecreasingBy name_rank named
