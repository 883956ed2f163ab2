-- Memory while data is put into it, in the order of sections, then of slots, then of records.
use Rattle.std.specs.Prelude.{◌≡◌, ℕ, ◌+◌, ◌<◌, ◌⊎◌, List, slice_index}
use Rattle.byteorder.specs.Endian.{little_bytes}
use Rattle.elf64_records.specs.FileHeader.{e_shnum}
use Rattle.elf64_records.specs.First.{first_from}
use Rattle.elf64_records.specs.Records.{record_count}
use Rattle.elf64_records.specs.Sections.{section_bytes}
use Rattle.object_set.specs.declared.places.RecordId.{RecordId}
use Rattle.object_set.specs.declared.places.SectionId.{SectionId}
use Rattle.object_set.specs.declared.places.SymbolId.{SymbolId}
use Rattle.object_set.specs.declared.refusal.Refusal.{Refusal}
use Rattle.object_set.specs.Files.{file_at}
use Rattle.object_set.specs.Walks.{record_id}
use Rattle.reloc_fields.specs.declared.kind.Kind.{Kind}
use Rattle.std.specs.Prelude.{Option, ◌-◌, [], ◌∷◌, nat_lt, if◌then◌else◌}
use Rattle.elf64_exec.specs.declared.layout.Segment.{Segment}
use Rattle.toc_groups.specs.declared.slots.TheConstants.{SLOT_SIZE}
use Rattle.toc_groups.specs.Contents.{HoldsBytes, IsStored, IsDataField, IsSlot, HasByte, section_start, section_size, field_bytes}
use Rattle.toc_groups.specs.Parts.{Covers, slot_place}
use Rattle.toc_groups.specs.Values.{symbol_address, field_address, data_overflow_at}

-- a section comes before number i of a file
abbrev pub SectionFirst : ℕ → ℕ → SectionId → Type 0
SectionFirst file i s = (s.file < file) ⊎ ((s.file ≡ file) × (s.section < i))

-- memory holds the sections that come before a place, and else zeros
pub record AreCopied (files : List (List ℕ)) (span file i : ℕ) (byte : ℕ → ℕ) : Type 0 where
  pub sections : (s : SectionId) (k : ℕ) → IsStored files s → SectionFirst file i s → k < section_size files s →
      byte (section_start files span s + k) ≡ slice_index (section_bytes (file_at files s.file) s.section) k
  pub zeros : (a : ℕ) →
      ((s : SectionId) → IsStored files s → SectionFirst file i s → Covers (section_start files span s) (section_size files s) a → ⊥) →
      byte a ≡ 0

-- a slot comes before slot k of group g
abbrev pub SlotFirst : ℕ → ℕ → ℕ → ℕ → Type 0
SlotFirst g k h m = (h < g) ⊎ ((h ≡ g) × (m < k))

-- no section has an address
abbrev pub NoSection : List (List ℕ) → ℕ → ℕ → Type 0
NoSection files span a = (s : SectionId) → IsStored files s → Covers (section_start files span s) (section_size files s) a → ⊥

-- memory holds all sections, and the slots that come before a place
pub record AreSlotted (files : List (List ℕ)) (span : ℕ) (text : List ℕ) (g k : ℕ) (byte : ℕ → ℕ) : Type 0 where
  pub sections : (s : SectionId) (n : ℕ) → IsStored files s → n < section_size files s →
      byte (section_start files span s + n) ≡ slice_index (section_bytes (file_at files s.file) s.section) n
  pub slots : (h m : ℕ) (s : SymbolId) → IsSlot files span h m s → SlotFirst g k h m →
      HoldsBytes byte (slot_place files span h m) (little_bytes SLOT_SIZE (symbol_address files span text s.file s.symbol))
  pub zeros : (a : ℕ) → NoSection files span a →
      ((h m : ℕ) (s : SymbolId) → IsSlot files span h m s → SlotFirst g k h m → Covers (slot_place files span h m) SLOT_SIZE a → ⊥) →
      byte a ≡ 0

-- a record comes before record k of section i of a file
abbrev pub RecordFirst : ℕ → ℕ → ℕ → RecordId → Type 0
RecordFirst file i k r = (r.file < file) ⊎ ((r.file ≡ file) × ((r.table < i) ⊎ ((r.table ≡ i) × (r.entry < k))))

-- memory holds all sections and slots, with the fields of the records filled that come before a place
pub record AreFilled (files : List (List ℕ)) (span : ℕ) (text : List ℕ) (file i k : ℕ) (byte : ℕ → ℕ) : Type 0 where
  pub fields : (r : RecordId) (kind : Kind) → IsDataField files r kind → RecordFirst file i k r →
      HoldsBytes byte (field_address files span text r) (field_bytes files span text r kind)
  pub sections : (s : SectionId) (n : ℕ) → IsStored files s → n < section_size files s →
      ((r : RecordId) (kind : Kind) → IsDataField files r kind → RecordFirst file i k r → HasByte files r kind s n → ⊥) →
      byte (section_start files span s + n) ≡ slice_index (section_bytes (file_at files s.file) s.section) n
  pub slots : (h m : ℕ) (s : SymbolId) → IsSlot files span h m s →
      HoldsBytes byte (slot_place files span h m) (little_bytes SLOT_SIZE (symbol_address files span text s.file s.symbol))
  pub zeros : (a : ℕ) → NoSection files span a →
      ((h m : ℕ) (s : SymbolId) → IsSlot files span h m s → Covers (slot_place files span h m) SLOT_SIZE a → ⊥) → byte a ≡ 0

-- the first overflow of the records that a section holds, and of those of a file
abbrev pub entry_overflow : List (List ℕ) → ℕ → List ℕ → ℕ → ℕ → ℕ → Option Refusal
entry_overflow files span text file i k = data_overflow_at files span text (record_id file (file_at files file) i k)

abbrev pub table_overflow : List (List ℕ) → ℕ → List ℕ → ℕ → ℕ → Option Refusal
table_overflow files span text file i = first_from (entry_overflow files span text file i) 0 (record_count (file_at files file) i)

abbrev pub file_overflow : List (List ℕ) → ℕ → List ℕ → ℕ → Option Refusal
file_overflow files span text file = first_from (table_overflow files span text file) 0 (e_shnum (file_at files file))

-- a segment of these bytes from one address to another, if it isn't empty
abbrev pub segment : ℕ → List ℕ → ℕ → ℕ → List Segment
segment flags bytes start end =
    if nat_lt start end then record { flags = flags; address = start; bytes = bytes; size = end - start } ∷ [] else []
