-- What makes a file no object file that is read, in the order in which it is said. Sums don't wrap.
use Rattle.std.specs.Prelude.{ℕ, ◌+◌, ◌-◌, ◌*◌, ◌/◌, ◌%◌, Bool, not, List, length, ◌||◌, ◌&&◌, ◌==◌, nat_lt, nat_le, Option, None, if◌then◌else◌}
use Rattle.ppc_bytes.specs.declared.constants.TheConstants.{ET_REL, ET_DYN}
use Rattle.elf64_records.specs.declared.fault.ElfFault.{ElfFault}
use Rattle.elf64_records.specs.declared.fault.ElfFault.TheVariants.{NotElf, NotPpc64Le, SharedObject, NotObject, BadAbi, BadTable}
use Rattle.elf64_records.specs.declared.fault.Place.TheVariants.{File, Section, Symbol, Record}
use Rattle.elf64_records.specs.First.{◌orelse◌, when, first_from}
use Rattle.elf64_records.specs.FileHeader.{has_magic, is_ppc64_le, e_type, e_flags, e_shoff, e_shentsize, e_shnum, e_shstrndx}
use Rattle.elf64_records.specs.Sections.{sh_name, sh_offset, sh_size, sh_link, sh_info, sh_entsize, is_string_table, is_symbol_table, is_rela, is_kept, has_bytes, section_names}
use Rattle.elf64_records.specs.Names.{has_zero_from}
use Rattle.elf64_records.specs.Symbols.{symbol_table, symbol_count, st_name, symbol_names}
use Rattle.elf64_records.specs.Records.{r_symbol}

-- the first over the sections from 1 on
abbrev pub first_section : List ℕ → (ℕ → Option ElfFault) → Option ElfFault
first_section b fault = first_from fault 1 (e_shnum b - 1)

-- the file isn't relocatable (ET_REL), for little-endian 64-bit Power and of the ELFv2 ABI, or of no ABI by name
abbrev pub kind_fault : List ℕ → Option ElfFault
kind_fault b =
    when (not (has_magic b)) NotElf
    orelse when (nat_lt (length b) 64) (BadTable File)
    orelse when (not (is_ppc64_le b)) NotPpc64Le
    orelse when (e_type b == ET_DYN) SharedObject
    orelse when (not (e_type b == ET_REL)) NotObject
    orelse when (not (e_flags b == 0 || e_flags b == 2)) BadAbi

-- the section headers lie in the file, 64 bytes for each section, and the sections' names have a string table
abbrev pub has_section_table : List ℕ → Bool
has_section_table b =
    e_shentsize b == 64 && not (e_shnum b == 0) && nat_le (e_shoff b + 64 * e_shnum b) (length b)
    && nat_lt (e_shstrndx b) (e_shnum b) && is_string_table b (e_shstrndx b)

-- what is wrong with the file header
abbrev pub header_fault : List ℕ → Option ElfFault
header_fault b = kind_fault b orelse when (not (has_section_table b)) (BadTable File)

-- the bytes of section i pass the end of the file
unfoldable pub range_fault : List ℕ → ℕ → Option ElfFault
range_fault b i = when (has_bytes b i && nat_lt (length b) (sh_offset b i + sh_size b i)) (BadTable (Section i))

-- no zero byte ends the name of section i
unfoldable pub name_fault : List ℕ → ℕ → Option ElfFault
name_fault b i = when (not (has_zero_from (section_names b) (sh_name b i))) (BadTable (Section i))

-- what is wrong with the sections' ranges, or else with their names
abbrev pub sections_fault : List ℕ → Option ElfFault
sections_fault b = first_section b (range_fault b) orelse first_section b (name_fault b)

-- section i is a second symbol table
unfoldable pub second_fault : List ℕ → ℕ → Option ElfFault
second_fault b i = when (is_symbol_table b i && not (i == symbol_table b)) (BadTable (Section i))

-- section i is a table of 24-byte entries
abbrev pub has_entries : List ℕ → ℕ → Bool
has_entries b i = sh_entsize b i == 24 && sh_size b i % 24 == 0

-- a number names a section that is a string table
abbrev pub names_string_table : List ℕ → ℕ → Bool
names_string_table b n = nat_lt n (e_shnum b) && is_string_table b n

-- the symbol table isn't one, or its names have no string table
abbrev pub symbol_table_fault : List ℕ → Option ElfFault
symbol_table_fault b =
    let table = symbol_table b in
    when (not (table == 0) && not (has_entries b table && names_string_table b (sh_link b table))) (BadTable (Section table))

-- no zero byte ends the name of symbol j
unfoldable pub symbol_fault : List ℕ → ℕ → Option ElfFault
symbol_fault b j = when (not (has_zero_from (symbol_names b) (st_name b j))) (BadTable (Symbol j))

-- what is wrong with the symbol table, or else with the symbols' names
abbrev pub symbols_fault : List ℕ → Option ElfFault
symbols_fault b =
    first_section b (second_fault b)
    orelse symbol_table_fault b
    orelse first_from (symbol_fault b) 0 (symbol_count b)

-- record k of section i names no symbol
unfoldable pub record_fault : List ℕ → ℕ → ℕ → Option ElfFault
record_fault b i k = when (not (nat_lt (r_symbol b i k) (symbol_count b))) (BadTable (Record i k))

-- the records of section i are a table over the symbol table, and each names a symbol
unfoldable pub records_fault : List ℕ → ℕ → Option ElfFault
records_fault b i =
    when (not (has_entries b i && sh_link b i == symbol_table b && not (symbol_table b == 0))) (BadTable (Section i))
    orelse first_from (record_fault b i) 0 (sh_size b i / 24)

-- the records of a section that isn't kept aren't looked at
unfoldable pub rela_fault : List ℕ → ℕ → Option ElfFault
rela_fault b i =
    if is_rela b i then
    when (not (nat_lt (sh_info b i) (e_shnum b))) (BadTable (Section i))
    orelse (if is_kept b (sh_info b i) then records_fault b i else None)
    else None

-- the first fault of a file: of its header, its sections, its symbols, or its records, section by section
abbrev pub object_fault : List ℕ → Option ElfFault
object_fault b =
    header_fault b
    orelse sections_fault b
    orelse symbols_fault b
    orelse first_section b (rela_fault b)
