-- Records while they are judged.
use Rattle.std.specs.Prelude.{◌≡◌, ◌<◌, ◌≤◌, ◌+◌, ℕ, List, length, Option, Some}
use Rattle.elf64_records.specs.First.{first_from}
use Rattle.elf64_records.specs.FileHeader.{e_shnum}
use Rattle.elf64_records.specs.Records.{record_count, rela_of}
use Rattle.object_set.specs.Files.{file_at}
use Rattle.object_set.specs.Walks.{IsRecord, record_id}
use Rattle.object_set.specs.declared.places.RecordId.{RecordId}
use Rattle.object_set.specs.declared.refusal.Refusal.{Refusal}
use Rattle.reloc_fields.specs.declared.kind.Kind.{Kind}
use Rattle.reloc_fields.specs.Table.{line_of}
use Rattle.symbol_table.specs.Fields.{kind_numbered}
use Rattle.symbol_table.specs.Records.{record_refusal}

-- a record of a file of a set, of a kind that fills bytes
pub record IsFilling (files : List (List ℕ)) (file : ℕ) (r : RecordId) (kind : Kind) : Type 0 where
  pub record_in : IsRecord files r
  pub file_is : r.file ≡ file
  pub kind_is : kind_numbered (rela_of (file_at files r.file) r.table r.entry).kind ≡ Some kind
  pub fills : 0 < (line_of kind).width

-- the field of a record lies among the bytes of its section
abbrev pub LiesIn : List (List ℕ) → RecordId → Kind → List ℕ → Type 0
LiesIn files r kind bytes =
    let b = file_at files r.file in
    (rela_of b r.table r.entry).offset + (line_of kind).width ≤ length bytes

-- the refusal of record k of a section of a file
abbrev pub entry_refusal_at : List (List ℕ) → ℕ → ℕ → ℕ → Option Refusal
entry_refusal_at files file table k = record_refusal files (record_id file (file_at files file) table k)

-- the first of those of a section
abbrev pub table_refusal : List (List ℕ) → ℕ → ℕ → Option Refusal
table_refusal files file table = first_from (entry_refusal_at files file table) 0 (record_count (file_at files file) table)

-- the first of those of a file
abbrev pub file_records_refusal : List (List ℕ) → ℕ → Option Refusal
file_records_refusal files file = first_from (table_refusal files file) 0 (e_shnum (file_at files file))
