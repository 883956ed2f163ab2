-- The symbols that other files see (ELF64, "Symbol Table": STB_GLOBAL and STB_WEAK), in order of file and symbol number, and their
-- names in the order in which they are first seen.
use Rattle.std.specs.Prelude.{ℕ, List, [], ◌∷◌, ◌++◌, ◌||◌, fold, if◌then◌else◌}
use Rattle.std.specs.List.{list_any}
use Rattle.std.specs.Str.{bytes_eq}
use Rattle.elf64_records.specs.Symbols.{symbol_count, st_size, st_value}
use Rattle.object_set.specs.Walks.{Walk, all_items}
use Rattle.object_set.specs.Symbols.{name_of, is_local, is_global, is_absolute, is_common, lies_in_kept}
use Rattle.symbol_table.specs.declared.role.Role.{Role}
use Rattle.symbol_table.specs.declared.role.Role.TheVariants.{Global, Common, Weak, Reference}

-- what a GLOBAL or WEAK symbol does for its name: it is a common where its section index is SHN_COMMON, and a definition where it
-- is absolute or lies in a kept section. One in a section that isn't kept defines nothing
unfoldable pub role_of : List ℕ → ℕ → Role
role_of b j =
    if is_common b j then Common
    else (if is_absolute b j || lies_in_kept b j then (if is_global b j then Global else Weak)
    else Reference)

-- a symbol that other files see: its name, what it does for it, its file and number, its size, and its value, which is a common's alignment
pub record External : Type 0 where
  pub name : List ℕ
  pub role : Role
  pub file : ℕ
  pub number : ℕ
  pub size : ℕ
  pub value : ℕ

abbrev pub external_symbol : ℕ → List ℕ → ℕ → External
external_symbol file b j = record {
  name = name_of b j;
  role = role_of b j;
  file = file;
  number = j;
  size = st_size b j;
  value = st_value b j;
}

-- symbol j of a file, where other files see it
abbrev pub external_at : ℕ → List ℕ → ℕ → List External
external_at file b j = if is_local b j then [] else external_symbol file b j ∷ []

-- those of all files, in order of file and symbol number
abbrev pub external_walk : Walk External
external_walk = record { count = symbol_count; items = external_at }

abbrev pub external_symbols : List (List ℕ) → List External
external_symbols files = all_items external_walk files

-- the names with one more, which goes last where it is new
abbrev pub with_name : List (List ℕ) → List ℕ → List (List ℕ)
with_name names name = if list_any (bytes_eq name) names then names else names ++ name ∷ []

-- the names of symbols, in the order in which they are first seen
abbrev pub names_of : List External → List (List ℕ)
names_of symbols = fold (λ names s. with_name names s.name) [] symbols
