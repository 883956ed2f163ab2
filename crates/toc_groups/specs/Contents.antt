-- What memory holds of data: the bytes of sections with their fields filled, slots, and zeros (ELFv2 ABI, 3.3 "TOC", "GOT" and "Relocation
-- Fields"; ELF64, "Program Header").
use Rattle.std.specs.Prelude.{◌≡◌, ℕ, ◌+◌, ◌-◌, ◌<◌, true, List, [], ◌∷◌, ◌++◌, length, map, Some, None, slice_get, slice_index, nat_lt, if◌then◌else◌}
use Rattle.std.specs.List.{range_with_len}
use Rattle.byteorder.specs.Endian.{little_bytes}
use Rattle.elf64_exec.specs.declared.layout.Segment.{Segment}
use Rattle.elf64_exec.specs.declared.memory_map.TheConstants.{IMAGE_START, READ_ONLY, WRITABLE}
use Rattle.elf64_records.specs.Records.{rela_of}
use Rattle.elf64_records.specs.Sections.{sh_size, section_bytes}
use Rattle.object_set.specs.declared.places.RecordId.{RecordId}
use Rattle.object_set.specs.declared.places.SectionId.{SectionId}
use Rattle.object_set.specs.declared.places.SymbolId.{SymbolId}
use Rattle.object_set.specs.Files.{file_at}
use Rattle.object_set.specs.Sections.{sort_of}
use Rattle.object_set.specs.Walks.{IsSection, IsRecord}
use Rattle.ppc_bytes.specs.Bytes.{number_at}
use Rattle.reloc_fields.specs.declared.kind.Kind.{Kind}
use Rattle.reloc_fields.specs.Table.{line_of, filled}
use Rattle.symbol_table.specs.Fields.{kind_numbered}
use Rattle.symbol_table.specs.Records.{records_refusal}
use Rattle.symbol_table.specs.Sites.{is_data_sort}
use Rattle.symbol_table.specs.Text.{text_sections}
use Rattle.toc_groups.specs.declared.slots.TheConstants.{SLOT_SIZE}
use Rattle.toc_groups.specs.Data.{read_only_end, writable_start, writable_end, commons_end, group_slots, section_address}
use Rattle.toc_groups.specs.Groups.{group_count}
use Rattle.toc_groups.specs.Plans.{LaidData, IsPlan}
use Rattle.toc_groups.specs.Parts.{Covers, slot_place}
use Rattle.toc_groups.specs.Values.{symbol_address, field_address, record_value}

-- memory holds these bytes from an address on
abbrev pub HoldsBytes : (ℕ → ℕ) → ℕ → List ℕ → Type 0
HoldsBytes byte at bytes = (k : ℕ) → k < length bytes → byte (at + k) ≡ slice_index bytes k

-- where a section of data lies, and its size
abbrev pub section_start : List (List ℕ) → ℕ → SectionId → ℕ
section_start files span s = section_address files span s.file (file_at files s.file) s.section

abbrev pub section_size : List (List ℕ) → SectionId → ℕ
section_size files s = sh_size (file_at files s.file) s.section

-- a section of data whose bytes stand in its file
pub record IsStored (files : List (List ℕ)) (s : SectionId) : Type 0 where
  pub there : IsSection files s
  pub sort : is_data_sort (sort_of (file_at files s.file) s.section) ≡ true

-- a record that fills a field of such a section
pub record IsDataField (files : List (List ℕ)) (r : RecordId) (kind : Kind) : Type 0 where
  pub there : IsRecord files r
  pub kind_is : kind_numbered (rela_of (file_at files r.file) r.table r.entry).kind ≡ Some kind
  pub fills : 0 < (line_of kind).width
  pub sort : is_data_sort (sort_of (file_at files r.file) r.section) ≡ true

-- slot k of group g, and the symbol for which it was made
pub record IsSlot (files : List (List ℕ)) (span g k : ℕ) (s : SymbolId) : Type 0 where
  pub group_in : g < group_count files span
  pub symbol : slice_get (group_slots files span g) k ≡ Some s

-- no such section, and no slot, has an address
pub record IsFree (files : List (List ℕ)) (span a : ℕ) : Type 0 where
  pub sections : (s : SectionId) → IsStored files s → Covers (section_start files span s) (section_size files s) a → ⊥
  pub slots : (g k : ℕ) (s : SymbolId) → IsSlot files span g k s → Covers (slot_place files span g k) SLOT_SIZE a → ⊥

-- a record's field has byte k of a section
pub record HasByte (files : List (List ℕ)) (r : RecordId) (kind : Kind) (s : SectionId) (k : ℕ) : Type 0 where
  pub file_is : r.file ≡ s.file
  pub section_is : r.section ≡ s.section
  pub covers : Covers (rela_of (file_at files r.file) r.table r.entry).offset (line_of kind).width k

module _ (files : List (List ℕ)) (span : ℕ) (text : List ℕ) where
  -- the bytes of a filled field: what the section has there, with the value put in
  unfoldable pub field_bytes : RecordId → Kind → List ℕ
  field_bytes r kind =
      let b = file_at files r.file in
      let line = line_of kind in
      little_bytes line.width
      (filled line.filling (number_at line.width (section_bytes b r.section) (rela_of b r.table r.entry).offset)
      (record_value files span text r kind))

  -- what memory holds: each field its value, each other byte of a section what the file has, each slot its symbol's address, and
  -- all else zero
  pub record HoldsData (byte : ℕ → ℕ) : Type 0 where
    pub fields : (r : RecordId) (kind : Kind) → IsDataField files r kind →
        HoldsBytes byte (field_address files span text r) (field_bytes r kind)
    pub sections : (s : SectionId) (k : ℕ) → IsStored files s → k < section_size files s →
        ((r : RecordId) (kind : Kind) → IsDataField files r kind → HasByte files r kind s k → ⊥) →
        byte (section_start files span s + k) ≡ slice_index (section_bytes (file_at files s.file) s.section) k
    pub slots : (g k : ℕ) (s : SymbolId) → IsSlot files span g k s →
        HoldsBytes byte (slot_place files span g k) (little_bytes SLOT_SIZE (symbol_address files span text s.file s.symbol))
    pub zeros : (a : ℕ) → IsFree files span a → byte a ≡ 0

-- what memory holds from one address to another
abbrev pub bytes_between : (ℕ → ℕ) → ℕ → ℕ → List ℕ
bytes_between byte start stop = map byte (range_with_len start (stop - start))

-- a segment of memory from one address to another of which the file has the bytes up to a third, if it isn't empty
abbrev pub segment_of : ℕ → (ℕ → ℕ) → ℕ → ℕ → ℕ → List Segment
segment_of flags byte start stop end =
    if nat_lt start end
    then record { flags = flags; address = start; bytes = bytes_between byte start stop; size = end - start } ∷ []
    else []

-- the segments of data that aren't empty: the one that is only read, and the one that is written, whose last bytes are zeros that no file
-- has
abbrev pub data_segments : List (List ℕ) → ℕ → (ℕ → ℕ) → List Segment
data_segments files span byte =
    segment_of READ_ONLY byte IMAGE_START (read_only_end files) (read_only_end files)
    ++ segment_of WRITABLE byte (writable_start files) (writable_end files span) (commons_end files span)

pub record AreDataSegments (files : List (List ℕ)) (span : ℕ) (text : List ℕ) (segments : List Segment) : Type 0 where
  pub byte : ℕ → ℕ
  pub holds : HoldsData files span text byte
  pub are : segments ≡ data_segments files span byte

-- a plan, and addresses of text sections, that are those of files whose records can be linked
pub record AreOfFiles (files : List (List ℕ)) (plan : LaidData) (text : List ℕ) : Type 0 where
  pub plan_is : IsPlan files plan.span plan
  pub records : records_refusal files ≡ None
  pub texts : length text ≡ length (text_sections files)
