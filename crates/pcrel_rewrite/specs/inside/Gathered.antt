-- What the records of a file ask for, while it is gathered.
use Rattle.std.specs.Prelude.{◌≡◌, ℕ, pos, ◌-◌, false, List, [], Some}
use Rattle.elf64_records.specs.FileHeader.{e_shnum}
use Rattle.elf64_records.specs.Records.{record_count, rela_of}
use Rattle.elf64_records.specs.Sections.{section_bytes}
use Rattle.object_set.specs.declared.places.RecordId.{RecordId}
use Rattle.object_set.specs.Files.{file_at}
use Rattle.object_set.specs.Walks.{record_id}
use Rattle.reloc_fields.specs.declared.kind.Kind.TheVariants.{GotPcrel34, PcrelOpt}
use Rattle.reloc_fields.specs.Table.{line_of}
use Rattle.symbol_table.specs.declared.target.CodePlace.{CodePlace}
use Rattle.symbol_table.specs.Targets.{definition_of}
use Rattle.symbol_table.specs.Text.{text_number}
use Rattle.pcrel_rewrite.specs.declared.gathered.Gathered.{Gathered}
use Rattle.pcrel_rewrite.specs.declared.text_pairs.TextPair.{TextPair}
use Rattle.pcrel_rewrite.specs.Pairs.{is_number}
use Rattle.pcrel_rewrite.specs.Words.{ArePairWords}
use Rattle.pcrel_rewrite.specs.inside.Joins.{Joins, Before}

-- a record asks for a pair of text whose words agree
pub record IsAskedBy (files : List (List ℕ)) (r : RecordId) (pair : TextPair) : Type 0 where
  pub section_is : text_number files r.file r.section ≡ Some pair.section
  pub kind_is : (rela_of (file_at files r.file) r.table r.entry).kind ≡ (line_of PcrelOpt).number
  pub head_is : (rela_of (file_at files r.file) r.table r.entry).offset ≡ pair.head
  pub distance : (rela_of (file_at files r.file) r.table r.entry).addend ≡ pos (pair.tail - pair.head)
  pub words : ArePairWords (section_bytes (file_at files r.file) r.section) pair.head pair.tail

-- a record loads an address from a slot at a place of text
pub record IsLoadBy (files : List (List ℕ)) (r : RecordId) (place : CodePlace) : Type 0 where
  pub section_is : text_number files r.file r.section ≡ Some place.section
  pub kind_is : (rela_of (file_at files r.file) r.table r.entry).kind ≡ (line_of GotPcrel34).number
  pub offset_is : (rela_of (file_at files r.file) r.table r.entry).offset ≡ place.offset
  pub address : is_number files (definition_of files r.file (rela_of (file_at files r.file) r.table r.entry).symbol) ≡ false

-- what records ask for and load is gathered
pub record Gathers (asked : TextPair → Type 0) (loads : CodePlace → Type 0) (old new : Gathered) : Type 0 where
  pub asked_too : Joins asked old.asked.items new.asked.items
  pub loads_too : Joins loads old.loads.items new.loads.items

-- what record k of section i of a file asks for and loads
abbrev pub AskedAt : List (List ℕ) → ℕ → ℕ → ℕ → TextPair → Type 0
AskedAt files file i k pair = IsAskedBy files (record_id file (file_at files file) i k) pair

abbrev pub LoadedAt : List (List ℕ) → ℕ → ℕ → ℕ → CodePlace → Type 0
LoadedAt files file i k place = IsLoadBy files (record_id file (file_at files file) i k) place

-- what the records of section i do
abbrev pub AskedIn : List (List ℕ) → ℕ → ℕ → TextPair → Type 0
AskedIn files file i = Before (AskedAt files file i) (record_count (file_at files file) i)

abbrev pub LoadedIn : List (List ℕ) → ℕ → ℕ → CodePlace → Type 0
LoadedIn files file i = Before (LoadedAt files file i) (record_count (file_at files file) i)

-- what the records of a file ask for and load
pub record IsGathered (files : List (List ℕ)) (file : ℕ) (g : Gathered) : Type 0 where
  pub asked_are : Joins (Before (AskedIn files file) (e_shnum (file_at files file))) [] g.asked.items
  pub loads_are : Joins (Before (LoadedIn files file) (e_shnum (file_at files file))) [] g.loads.items
