-- The recognised pairs of a link: a load of a symbol's address from its slot, and the access through that address that a PCREL_OPT record
-- names (ELFv2 ABI, "Relocation Descriptions": R_PPC64_PCREL_OPT, R_PPC64_GOT_PCREL34).
use Rattle.std.specs.Prelude.{◌≡◌, ℕ, pos, ◌+◌, ◌-◌, Bool, false, List, Option, None, Some, slice_get}
use Rattle.std.specs.List.{Contains, list_any}
use Rattle.elf64_records.specs.Records.{rela_of}
use Rattle.elf64_records.specs.Sections.{section_bytes}
use Rattle.object_set.specs.declared.places.RecordId.{RecordId}
use Rattle.object_set.specs.declared.places.SectionId.{SectionId}
use Rattle.object_set.specs.declared.places.SymbolId.{SymbolId}
use Rattle.object_set.specs.Files.{file_at}
use Rattle.object_set.specs.Symbols.{is_absolute}
use Rattle.object_set.specs.Walks.{IsRecord}
use Rattle.reloc_fields.specs.declared.kind.Kind.{Kind}
use Rattle.reloc_fields.specs.declared.kind.Kind.TheVariants.{GotPcrel34, PcrelOpt}
use Rattle.reloc_fields.specs.Table.{line_of}
use Rattle.symbol_table.specs.Fields.{fields_of, meets}
use Rattle.symbol_table.specs.Targets.{definition_of}
use Rattle.symbol_table.specs.Text.{text_sections}
use Rattle.pcrel_rewrite.specs.declared.text_pairs.TextPair.{TextPair}
use Rattle.pcrel_rewrite.specs.Words.{ArePairWords}

-- a relocation record of a kind about an offset of a section
pub record IsRecordAt (files : List (List ℕ)) (kind : Kind) (s : SectionId) (at : ℕ) (r : RecordId) : Type 0 where
  pub record_in : IsRecord files r
  pub file_is : r.file ≡ s.file
  pub section_is : r.section ≡ s.section
  pub kind_is : (rela_of (file_at files s.file) r.table r.entry).kind ≡ (line_of kind).number
  pub offset_is : (rela_of (file_at files s.file) r.table r.entry).offset ≡ at

-- what a symbol stands for is a number
abbrev pub is_number : List (List ℕ) → Option SymbolId → Bool
is_number files None = false
is_number files (Some d) = is_absolute (file_at files d.file) d.symbol

-- a load from a slot is asked for at an offset of a section, of a symbol that doesn't stand for a number: an address of the image is
-- near enough to every place of text, and a number may be anywhere
pub record IsLoadAt (files : List (List ℕ)) (s : SectionId) (at : ℕ) : Type 0 where
  pub record_id : RecordId
  pub here : IsRecordAt files GotPcrel34 s at record_id
  pub address : is_number files (definition_of files s.file (rela_of (file_at files s.file) record_id.table record_id.entry).symbol) ≡ false

-- a record at the head says that the access stands at the tail
pub record IsAsked (files : List (List ℕ)) (s : SectionId) (head tail : ℕ) : Type 0 where
  pub record_id : RecordId
  pub here : IsRecordAt files PcrelOpt s head record_id
  pub distance : (rela_of (file_at files s.file) record_id.table record_id.entry).addend ≡ pos (tail - head)

-- a pair of a section is recognised: a record asks for it, its words can become one instruction, its head is a load from a slot, and no
-- record's field has bytes behind the head up to the end of the tail
pub record IsPair (files : List (List ℕ)) (s : SectionId) (head tail : ℕ) : Type 0 where
  pub asked : IsAsked files s head tail
  pub words : ArePairWords (section_bytes (file_at files s.file) s.section) head tail
  pub load : IsLoadAt files s head
  pub untouched :
      list_any (meets s.section (head + 8) (tail + 4 - (head + 8))) (fields_of s.file (file_at files s.file)) ≡ false

-- a recognised pair of a text section, by its number among all text sections
pub record IsRecognised (files : List (List ℕ)) (pair : TextPair) : Type 0 where
  pub place : SectionId
  pub place_is : slice_get (text_sections files) pair.section ≡ Some place
  pub is : IsPair files place pair.head pair.tail

-- these are the recognised pairs
pub record ArePairs (files : List (List ℕ)) (pairs : List TextPair) : Type 0 where
  pub each : (pair : TextPair) → Contains pairs pair → IsRecognised files pair
  pub all : (pair : TextPair) → IsRecognised files pair → Contains pairs pair
