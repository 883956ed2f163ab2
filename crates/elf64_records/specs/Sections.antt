-- The sections of a relocatable file (ELF64, "Section Header"). A section header has 64 bytes, and each field is the number at its
-- offset there.
use Rattle.std.specs.Prelude.{ℕ, ◌+◌, ◌*◌, Bool, not, List, [], ◌||◌, ◌&&◌, ◌==◌, bit_and, slice_range, if◌then◌else◌}
use Rattle.ppc_bytes.specs.Bytes.{number_at}
use Rattle.ppc_bytes.specs.declared.constants.TheConstants.{SHT_NULL, SHT_SYMTAB, SHT_STRTAB, SHT_RELA, SHT_NOBITS, SHF_ALLOC}
use Rattle.elf64_records.specs.FileHeader.{e_shoff, e_shstrndx}
use Rattle.elf64_records.specs.Names.{name_at}

-- where the header of section i begins
abbrev pub header_place : List ℕ → ℕ → ℕ
header_place b i = e_shoff b + 64 * i

unfoldable pub sh_name : List ℕ → ℕ → ℕ
sh_name b i = number_at 4 b (header_place b i)

unfoldable pub sh_type : List ℕ → ℕ → ℕ
sh_type b i = number_at 4 b (header_place b i + 4)

unfoldable pub sh_flags : List ℕ → ℕ → ℕ
sh_flags b i = number_at 8 b (header_place b i + 8)

unfoldable pub sh_offset : List ℕ → ℕ → ℕ
sh_offset b i = number_at 8 b (header_place b i + 24)

unfoldable pub sh_size : List ℕ → ℕ → ℕ
sh_size b i = number_at 8 b (header_place b i + 32)

unfoldable pub sh_link : List ℕ → ℕ → ℕ
sh_link b i = number_at 4 b (header_place b i + 40)

unfoldable pub sh_info : List ℕ → ℕ → ℕ
sh_info b i = number_at 4 b (header_place b i + 44)

unfoldable pub sh_addralign : List ℕ → ℕ → ℕ
sh_addralign b i = number_at 8 b (header_place b i + 48)

unfoldable pub sh_entsize : List ℕ → ℕ → ℕ
sh_entsize b i = number_at 8 b (header_place b i + 56)

-- the type that section i counts as: section 0 counts as of type NULL, whatever its header says
abbrev pub type_of : List ℕ → ℕ → ℕ
type_of b i = if i == 0 then SHT_NULL else sh_type b i

abbrev pub is_string_table : List ℕ → ℕ → Bool
is_string_table b i = type_of b i == SHT_STRTAB

abbrev pub is_symbol_table : List ℕ → ℕ → Bool
is_symbol_table b i = type_of b i == SHT_SYMTAB

abbrev pub is_rela : List ℕ → ℕ → Bool
is_rela b i = type_of b i == SHT_RELA

-- the section's bytes stand in the file
abbrev pub has_bytes : List ℕ → ℕ → Bool
has_bytes b i = not (type_of b i == SHT_NULL || type_of b i == SHT_NOBITS)

-- the section is kept by a link: it has SHF_ALLOC. Section 0 counts as without it
abbrev pub is_kept : List ℕ → ℕ → Bool
is_kept b i = not (i == 0) && not (bit_and (sh_flags b i) SHF_ALLOC == 0)

-- the bytes of section i
abbrev pub section_bytes : List ℕ → ℕ → List ℕ
section_bytes b i = if has_bytes b i then slice_range b (sh_offset b i) (sh_offset b i + sh_size b i) else []

-- the table of the sections' names
abbrev pub section_names : List ℕ → List ℕ
section_names b = section_bytes b (e_shstrndx b)

-- what a file says of one section
pub record SectionFacts : Type 0 where
  pub name : List ℕ
  pub kind : ℕ
  pub flags : ℕ
  pub size : ℕ
  pub link : ℕ
  pub info : ℕ
  pub align : ℕ
  pub bytes : List ℕ

-- section i of a file; section 0 has no name and no bytes, and the numbers of its header
abbrev pub section_of : List ℕ → ℕ → SectionFacts
section_of b i = record {
  name = if i == 0 then [] else name_at (section_names b) (sh_name b i);
  kind = sh_type b i;
  flags = sh_flags b i;
  size = sh_size b i;
  link = sh_link b i;
  info = sh_info b i;
  align = sh_addralign b i;
  bytes = section_bytes b i;
}
