-- The calls of a file while they are put in order.
use Rattle.std.specs.Prelude.{ℕ, ◌≡◌, ◌==◌, ◌<◌, ◌+◌, ◌^◌, true, List, filter, length}
use Rattle.std.specs.List.Sorted.{IsPermutation, IsNonDecreasingBy}
use Rattle.elf64_records.specs.FileHeader.{e_shnum}
use Rattle.object_set.specs.Files.{file_at}
use Rattle.object_set.specs.Walks.{items_in, IsRecord}
use Rattle.elf64_records.specs.declared.records.Rela.{Rela}
use Rattle.elf64_records.specs.Records.{RecordFacts}
use Rattle.symbol_table.specs.declared.target.Target.{Target}
use Rattle.symbol_table.specs.declared.target.Target.TheVariants as target
use Rattle.symbol_table.specs.Text.{text_sections}
use Rattle.symbol_table.specs.declared.fields.RecordField.{RecordField}
use Rattle.symbol_table.specs.Fields.{fields_of, field_of}
use Rattle.symbol_table.specs.inside.Fields.{rank_of}
use Rattle.call_sites.specs.Sites.{is_call, call_walk}

-- the field of a call of a set of files
pub record IsCall (files : List (List ℕ)) (f : RecordField) : Type 0 where
  pub record_in : IsRecord files f.id
  pub field_is : f ≡ field_of (file_at files f.id.file) f.id
  pub call : is_call (file_at files f.id.file) f ≡ true

-- what a record says, as it was read
pub record AreFacts (facts : RecordFacts) (rela : Rela) : Type 0 where
  pub kind : rela.kind ≡ facts.kind
  pub symbol : rela.symbol ≡ facts.symbol
  pub addend : rela.addend ≡ facts.addend

-- a call goes to nothing, or to a place with room for two instructions
abbrev pub MayEnter : List (List ℕ) → Target → Type 0
MayEnter files (target.Code k offset) = (k < length (text_sections files)) × (offset + 8 < 2 ^ 64)
MayEnter files other = Unit {0}

-- the calls of a file, in record order
abbrev pub unsorted_calls : ℕ → List ℕ → List RecordField
unsorted_calls file b = filter (is_call b) (fields_of file b)

-- and in order of their places
abbrev pub file_calls : ℕ → List ℕ → List RecordField
file_calls file b = items_in call_walk file b (e_shnum b)

-- fields in order of their places, those at one place in the order in which they were
pub record IsInOrder (old new : List RecordField) : Type 0 where
  pub same : IsPermutation old new
  pub sorted : IsNonDecreasingBy rank_of new
  pub stable : (f : RecordField) →
      filter (λ g. rank_of g == rank_of f) new ≡ filter (λ g. rank_of g == rank_of f) old
