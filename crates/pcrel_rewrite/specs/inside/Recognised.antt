-- Pairs that records ask for, while it is found out which are recognised.
use Rattle.std.specs.Prelude.{◌≡◌, ◌<◌, ℕ, ◌+◌, ◌-◌, false, List, Some, slice_get, length}
use Rattle.std.specs.List.{Contains, list_any, slice_index_or}
use Rattle.elf64_records.specs.FileHeader.{e_shnum}
use Rattle.object_set.specs.declared.places.SectionId.{SectionId}
use Rattle.object_set.specs.Files.{file_at}
use Rattle.symbol_table.specs.declared.target.CodePlace.{CodePlace}
use Rattle.symbol_table.specs.Fields.{fields_of, meets}
use Rattle.symbol_table.specs.Text.{text_sections}
use Rattle.pcrel_rewrite.specs.declared.text_pairs.TextPair.{TextPair}
use Rattle.pcrel_rewrite.specs.Pairs.{IsRecognised}
use Rattle.pcrel_rewrite.specs.inside.Gathered.{AskedIn, LoadedIn}
use Rattle.pcrel_rewrite.specs.inside.Joins.{Before}
use Rattle.pcrel_rewrite.specs.inside.Order.{head_of}

-- a record of a file asks for a pair
abbrev pub AskedOf : List (List ℕ) → ℕ → TextPair → Type 0
AskedOf files file = Before (AskedIn files file) (e_shnum (file_at files file))

-- one loads an address at a place
abbrev pub LoadedOf : List (List ℕ) → ℕ → CodePlace → Type 0
LoadedOf files file = Before (LoadedIn files file) (e_shnum (file_at files file))

-- no field has bytes behind the load of a pair up to the end of the access
pub record IsFree (files : List (List ℕ)) (pair : TextPair) : Type 0 where
  pub place : SectionId
  pub place_is : slice_get (text_sections files) pair.section ≡ Some place
  pub untouched :
      list_any (meets place.section (pair.head + 8) (pair.tail + 4 - (pair.head + 8))) (fields_of place.file (file_at files place.file))
      ≡ false

-- what is asked of a pair, beside its words
pub record IsTaken (files : List (List ℕ)) (loads : List CodePlace) (pair : TextPair) : Type 0 where
  pub load : Contains loads (head_of pair)
  pub free : IsFree files pair

-- pair k of a list is taken
pub record TakenAt (files : List (List ℕ)) (asked : List TextPair) (loads : List CodePlace) (k : ℕ) (pair : TextPair) : Type 0 where
  pub within : k < length asked
  pub here : slice_index_or asked k pair ≡ pair
  pub taken : IsTaken files loads pair

-- pair i of a list is the one before it
pub record Repeats (pairs : List TextPair) (i : ℕ) : Type 0 where
  pub some : 0 < i
  pub same : (d : TextPair) → slice_index_or pairs (i - 1) d ≡ slice_index_or pairs i d

-- a recognised pair of a file
pub record IsRecognisedIn (files : List (List ℕ)) (file : ℕ) (pair : TextPair) : Type 0 where
  pub is : IsRecognised files pair
  pub file_is : is.place.file ≡ file
