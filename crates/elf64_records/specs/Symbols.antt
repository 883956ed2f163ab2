-- The symbols of a relocatable file (ELF64, "Symbol Table"). An entry of the symbol table has 24 bytes, and each field is the number
-- at its offset there.
use Rattle.std.specs.Prelude.{ℕ, ◌+◌, ◌-◌, ◌*◌, ◌/◌, Option, List, ◌==◌, slice_index, unwrap_or, if◌then◌else◌}
use Rattle.ppc_bytes.specs.Bytes.{number_at}
use Rattle.elf64_records.specs.First.{when, first_from}
use Rattle.elf64_records.specs.FileHeader.{e_shnum}
use Rattle.elf64_records.specs.Sections.{is_symbol_table, sh_offset, sh_size, sh_link, section_bytes}
use Rattle.elf64_records.specs.Names.{name_at}

-- section i, where it is a symbol table
unfoldable pub symbol_table_at : List ℕ → ℕ → Option ℕ
symbol_table_at b i = when (is_symbol_table b i) i

-- the number of the section that holds the symbols, the first symbol table, or 0 where there is none
abbrev pub symbol_table : List ℕ → ℕ
symbol_table b = unwrap_or (first_from (symbol_table_at b) 1 (e_shnum b - 1)) 0

-- a file without a symbol table has no symbols
abbrev pub symbol_count : List ℕ → ℕ
symbol_count b = if symbol_table b == 0 then 0 else sh_size b (symbol_table b) / 24

-- where the entry of symbol j begins
abbrev pub symbol_place : List ℕ → ℕ → ℕ
symbol_place b j = sh_offset b (symbol_table b) + 24 * j

unfoldable pub st_name : List ℕ → ℕ → ℕ
st_name b j = number_at 4 b (symbol_place b j)

unfoldable pub st_info : List ℕ → ℕ → ℕ
st_info b j = slice_index b (symbol_place b j + 4)

unfoldable pub st_other : List ℕ → ℕ → ℕ
st_other b j = slice_index b (symbol_place b j + 5)

unfoldable pub st_shndx : List ℕ → ℕ → ℕ
st_shndx b j = number_at 2 b (symbol_place b j + 6)

unfoldable pub st_value : List ℕ → ℕ → ℕ
st_value b j = number_at 8 b (symbol_place b j + 8)

unfoldable pub st_size : List ℕ → ℕ → ℕ
st_size b j = number_at 8 b (symbol_place b j + 16)

-- the table of the symbols' names
abbrev pub symbol_names : List ℕ → List ℕ
symbol_names b = section_bytes b (sh_link b (symbol_table b))

-- what a file says of one symbol
pub record SymbolFacts : Type 0 where
  pub name : List ℕ
  pub info : ℕ
  pub other : ℕ
  pub shndx : ℕ
  pub value : ℕ
  pub size : ℕ

-- symbol j of a file
abbrev pub symbol_of : List ℕ → ℕ → SymbolFacts
symbol_of b j = record {
  name = name_at (symbol_names b) (st_name b j);
  info = st_info b j;
  other = st_other b j;
  shndx = st_shndx b j;
  value = st_value b j;
  size = st_size b j;
}
