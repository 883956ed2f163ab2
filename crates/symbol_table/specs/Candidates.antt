-- What a name stands for (ELF64, "Symbol Table": STB_GLOBAL, STB_WEAK and SHN_COMMON): its one GLOBAL definition; else the common, with
-- the largest size and the largest alignment; else the first WEAK definition; else nothing.
use Rattle.std.specs.Prelude.{ℕ, Bool, true, false, List, [], ◌∷◌, ◌&&◌, Option, Some, None, max, map, filter, filter_map, take, length}
use Rattle.std.specs.Prelude.{slice_get}
use Rattle.std.specs.List.{slice_index_or, position_or_len}
use Rattle.std.specs.Option.{option_map}
use Rattle.std.specs.Str.{bytes_eq}
use Rattle.elf64_records.specs.First.{first_from}
use Rattle.object_set.specs.declared.refusal.Refusal.{Refusal}
use Rattle.object_set.specs.declared.refusal.Refusal.TheVariants.{Duplicate}
use Rattle.object_set.specs.declared.places.SymbolId.{SymbolId}
use Rattle.symbol_table.specs.declared.candidates.CommonSize.{CommonSize}
use Rattle.symbol_table.specs.declared.role.Role.{Role}
use Rattle.symbol_table.specs.declared.role.Role.TheVariants as role
use Rattle.symbol_table.specs.declared.candidates.Candidates.{Candidates}
use Rattle.symbol_table.specs.declared.candidates.Resolution.{Resolution}
use Rattle.symbol_table.specs.declared.candidates.Resolution.TheVariants as resolution
use Rattle.symbol_table.specs.Externals.{External, external_symbols, names_of}

abbrev pub is_global_role : Role → Bool
is_global_role role.Global = true
is_global_role role.Common = false
is_global_role role.Weak = false
is_global_role role.Reference = false

abbrev pub is_common_role : Role → Bool
is_common_role role.Global = false
is_common_role role.Common = true
is_common_role role.Weak = false
is_common_role role.Reference = false

abbrev pub is_weak_role : Role → Bool
is_weak_role role.Global = false
is_weak_role role.Common = false
is_weak_role role.Weak = true
is_weak_role role.Reference = false

-- the symbols that bear a name and do one thing for it, in order
abbrev pub bearing : (Role → Bool) → List ℕ → List External → List External
bearing does name symbols = filter (λ s. bytes_eq name s.name && does s.role) symbols

-- a symbol's file and number
abbrev pub id_of : External → SymbolId
id_of s = record { file = s.file; symbol = s.number }

-- the largest size and the largest alignment among commons
abbrev pub largest : List External → CommonSize
largest [] = record { size = 0; align = 0 }
largest (s ∷ commons) = record {
  size = max s.size (largest commons).size;
  align = max s.value (largest commons).align;
}

abbrev pub common_of : List External → Option CommonSize
common_of [] = None
common_of (s ∷ commons) = Some (largest (s ∷ commons))

-- what symbols say of a name: its first GLOBAL definition, the file of the second one, the common, and the first WEAK definition
abbrev pub candidates_of : List External → List ℕ → Candidates
candidates_of symbols name = record {
  global = option_map id_of (slice_get (bearing is_global_role name symbols) 0);
  second = option_map (λ s. s.file) (slice_get (bearing is_global_role name symbols) 1);
  common = common_of (bearing is_common_role name symbols);
  weak = option_map id_of (slice_get (bearing is_weak_role name symbols) 0);
}

-- a name stands for the first of these
abbrev pub first_resolution : Option SymbolId → Option CommonSize → Option SymbolId → Resolution
first_resolution (Some global) common weak = resolution.Definition global
first_resolution None (Some common) weak = resolution.Common common
first_resolution None None (Some weak) = resolution.Definition weak
first_resolution None None None = resolution.Undefined

abbrev pub resolution_of : Candidates → Resolution
resolution_of c = first_resolution c.global c.common c.weak

-- what a name stands for in a set of files
abbrev pub stands_for : List (List ℕ) → List ℕ → Resolution
stands_for files name = resolution_of (candidates_of (external_symbols files) name)

-- the definition for which a name stands
abbrev pub definition_in : Resolution → Option SymbolId
definition_in (resolution.Definition symbol) = Some symbol
definition_in (resolution.Common common) = None
definition_in resolution.Undefined = None

-- the common for which a name stands
abbrev pub common_in : Resolution → Option CommonSize
common_in (resolution.Definition symbol) = None
common_in (resolution.Common common) = Some common
common_in resolution.Undefined = None

-- names in first-seen order, and what is said of each
pub record NamesSeen : Type 0 where
  pub names : List (List ℕ)
  pub candidates : List Candidates

abbrev pub names_seen : List External → NamesSeen
names_seen symbols = record {
  names = names_of symbols;
  candidates = map (candidates_of symbols) (names_of symbols);
}

-- what is said of each name of a set of files
abbrev pub all_candidates : List (List ℕ) → List Candidates
all_candidates files = (names_seen (external_symbols files)).candidates

-- the commons of the first n names of which so much is said
abbrev pub commons_before : List Candidates → ℕ → List CommonSize
commons_before candidates n = filter_map (λ c. common_in (resolution_of c)) (take n candidates)

-- the commons of a set of files, in first-seen order of their names
abbrev pub all_commons : List (List ℕ) → List CommonSize
all_commons files = commons_before (all_candidates files) (length (all_candidates files))

-- how many names before this one stand for a common: the number of its common
abbrev pub common_number : List (List ℕ) → List ℕ → ℕ
common_number files name =
    let place = position_or_len (bytes_eq name) (names_of (external_symbols files)) in
    length (commons_before (all_candidates files) place)

-- the refusal of a name with two GLOBAL definitions
abbrev pub duplicate_of : List ℕ → Option SymbolId → Option ℕ → Option Refusal
duplicate_of name None second = None
duplicate_of name (Some first) None = None
duplicate_of name (Some first) (Some second) = Some (Duplicate name first.file second)

-- nothing is said of a name
abbrev pub no_candidates : Candidates
no_candidates = record { global = None; second = None; common = None; weak = None }

-- the refusal of name i
unfoldable pub duplicate_at : NamesSeen → ℕ → Option Refusal
duplicate_at seen i =
    let candidates = slice_index_or seen.candidates i no_candidates in
    duplicate_of (slice_index_or seen.names i []) candidates.global candidates.second

-- that of the first name, in first-seen order, with two GLOBAL definitions
abbrev pub first_duplicate : NamesSeen → Option Refusal
first_duplicate seen = first_from (duplicate_at seen) 0 (length seen.names)

abbrev pub duplicate_refusal : List (List ℕ) → Option Refusal
duplicate_refusal files = first_duplicate (names_seen (external_symbols files))
