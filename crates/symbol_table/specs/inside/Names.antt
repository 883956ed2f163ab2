-- Names while symbols are read.
use Rattle.std.specs.Prelude.{◌≡◌, ℕ, false, max, List, [], ◌∷◌, ◌++◌, Option, Some, None, length, slice_get, is_some, if◌then◌else◌}
use Rattle.std.specs.List.{list_any}
use Rattle.std.specs.Str.{bytes_eq}
use Rattle.elf64_records.specs.First.{◌orelse◌}
use Rattle.std.specs.BTreeMap.{BTreeMap, get}
use Rattle.std.specs.Ordering.{nat_cmp}
use Rattle.elf64_records.specs.Names.{name_at}
use Rattle.elf64_records.specs.Symbols.{symbol_count, symbol_names}
use Rattle.object_set.specs.Files.{file_at}
use Rattle.object_set.specs.Symbols.{name_of, is_local}
use Rattle.symbol_table.specs.declared.candidates.CommonSize.{CommonSize}
use Rattle.symbol_table.specs.declared.role.Role.{Role}
use Rattle.symbol_table.specs.declared.role.Role.TheVariants as role
use Rattle.symbol_table.specs.declared.role.ExternalSymbol.{ExternalSymbol}
use Rattle.symbol_table.specs.declared.candidates.Candidates.{Candidates}
use Rattle.symbol_table.specs.Externals.{External, with_name}
use Rattle.object_set.specs.inside.Rows.{IsRow, AreRows}
use Rattle.symbol_table.specs.Candidates.{id_of, no_candidates, NamesSeen, names_seen}

-- a symbol with its name, as its facts
abbrev pub external_of : List ℕ → ExternalSymbol → External
external_of name s = record { name = name; role = s.role; file = s.file; number = s.number; size = s.size; value = s.value }

-- what is said of a name that comes to names: nothing, where it is new
abbrev pub candidates_of_new : List (List ℕ) → List ℕ → List Candidates
candidates_of_new names name = if list_any (bytes_eq name) names then [] else no_candidates ∷ []

-- a common together with one more
abbrev pub larger_common : Option CommonSize → ℕ → ℕ → CommonSize
larger_common None size align = record { size = size; align = align }
larger_common (Some common) size align = record { size = max common.size size; align = max common.align align }

-- what is said with one symbol more
abbrev pub with_candidate : Candidates → Role → External → Candidates
with_candidate candidates role.Global s = record candidates {
  global = candidates.global orelse Some (id_of s);
  second = if is_some candidates.global then candidates.second orelse Some s.file else candidates.second;
}
with_candidate candidates role.Common s = record candidates { common = Some (larger_common candidates.common s.size s.value) }
with_candidate candidates role.Weak s = record candidates { weak = candidates.weak orelse Some (id_of s) }
with_candidate candidates role.Reference s = candidates

-- something is said of each name
abbrev pub IsPaired : NamesSeen → Type 0
IsPaired seen = length seen.candidates ≡ length seen.names

-- symbols come behind those that were seen
abbrev pub SeesMore : NamesSeen → NamesSeen → List External → Type 0
SeesMore old new more = (symbols : List External) → old ≡ names_seen symbols → new ≡ names_seen (symbols ++ more)

-- a name comes to others, where it is new, and its number is k
pub record IsNumbered (old new : NamesSeen) (name : List ℕ) (k : ℕ) : Type 0 where
  pub names : new.names ≡ with_name old.names name
  pub candidates : new.candidates ≡ old.candidates ++ candidates_of_new old.names name
  pub number : slice_get new.names k ≡ Some name

-- what a map gives for a place in the table of a file's names is the number of the name that begins there
abbrev pub AreNamePlaces : List (List ℕ) → List ℕ → BTreeMap ℕ ℕ → Type 0
AreNamePlaces names b places =
    (place k : ℕ) → get nat_cmp places place ≡ Some k → slice_get names k ≡ Some (name_at (symbol_names b) place)

-- a map learns at most the number of the name at one place
abbrev pub NotesPlace : BTreeMap ℕ ℕ → BTreeMap ℕ ℕ → ℕ → ℕ → Type 0
NotesPlace old new place k =
    (names : List (List ℕ)) (b : List ℕ) →
    AreNamePlaces names b old →
    slice_get names k ≡ Some (name_at (symbol_names b) place) →
    AreNamePlaces names b new

-- the name of symbol j of a file has a number among names, where other files see it
abbrev pub HasNumber : List (List ℕ) → List ℕ → ℕ → ℕ → Type 0
HasNumber names b j k = is_local b j ≡ false → slice_get names k ≡ Some (name_of b j)

-- names keep their numbers where more come
abbrev pub KeepsNumbers : List (List ℕ) → List (List ℕ) → Type 0
KeepsNumbers old new = (k : ℕ) (name : List ℕ) → slice_get old k ≡ Some name → slice_get new k ≡ Some name

-- the numbers of the names of the first n symbols of a file, but for LOCAL ones
abbrev pub AreNameNumbers : List (List ℕ) → List ℕ → ℕ → List ℕ → Type 0
AreNameNumbers names b n numbers = IsRow (HasNumber names b) n numbers

-- those of all symbols of a file
abbrev pub AreFileNumbers : List (List ℕ) → List (List ℕ) → ℕ → List ℕ → Type 0
AreFileNumbers names files file numbers =
    AreNameNumbers names (file_at files file) (symbol_count (file_at files file)) numbers

-- those of the first n files
abbrev pub AreAllNameNumbers : List (List ℕ) → List (List ℕ) → ℕ → List (List ℕ) → Type 0
AreAllNameNumbers names files n numbers =
    AreRows (λ file. HasNumber names (file_at files file)) (λ file. symbol_count (file_at files file)) n numbers
