-- The symbols of an object file, as a link reads them, and what it can't take (ELF64, "Symbol Table"; ELFv2 ABI, "Symbol
-- Values"). Symbol 0 counts as local, undefined and without a name, whatever its entry says.
use Rattle.std.specs.Prelude.{ℕ, ◌+◌, ◌*◌, ◌/◌, ◌%◌, ◌^◌, Bool, not, List, [], ◌||◌, ◌&&◌, ◌==◌, nat_lt, codes, Option, Some, None, if◌then◌else◌}
use Rattle.std.specs.Str.{bytes_eq}
use Rattle.ppc_bytes.specs.declared.constants.TheConstants.{SHN_UNDEF, SHN_LORESERVE, SHN_ABS, SHN_COMMON, SHN_XINDEX, STB_LOCAL, STB_GLOBAL, STB_WEAK, STB_GNU_UNIQUE, STT_TLS, STT_GNU_IFUNC}
use Rattle.object_set.specs.declared.sections.TheConstants.{ALIGN_LIMIT}
use Rattle.elf64_records.specs.declared.fault.Place.TheVariants.{Symbol}
use Rattle.elf64_records.specs.First.{◌orelse◌, when}
use Rattle.elf64_records.specs.FileHeader.{e_shnum}
use Rattle.elf64_records.specs.Sections.{sh_size}
use Rattle.elf64_records.specs.Symbols.{st_info, st_other, st_shndx, st_value, symbol_of}
use Rattle.object_set.specs.declared.refusal.Refusal.{Refusal}
use Rattle.object_set.specs.declared.refusal.Refusal.TheVariants.{Unsupported, Tls, BadAlign, BadSymbol}
use Rattle.object_set.specs.Sections.{sort_of, is_kept_sort, is_text_sort, is_power_up_to}

-- the name of symbol j
abbrev pub name_of : List ℕ → ℕ → List ℕ
name_of b j = if j == 0 then [] else (symbol_of b j).name

-- the binding: the high four bits of st_info
abbrev pub binding : List ℕ → ℕ → ℕ
binding b j = if j == 0 then STB_LOCAL else st_info b j / 16

abbrev pub is_local : List ℕ → ℕ → Bool
is_local b j = binding b j == STB_LOCAL

abbrev pub is_global : List ℕ → ℕ → Bool
is_global b j = binding b j == STB_GLOBAL

abbrev pub is_weak : List ℕ → ℕ → Bool
is_weak b j = binding b j == STB_WEAK

-- the type: the low four bits of st_info
abbrev pub symbol_type : List ℕ → ℕ → ℕ
symbol_type b j = if j == 0 then 0 else st_info b j % 16

-- the section in which the symbol lies, or a special index
abbrev pub index_of : List ℕ → ℕ → ℕ
index_of b j = if j == 0 then SHN_UNDEF else st_shndx b j

abbrev pub is_undefined : List ℕ → ℕ → Bool
is_undefined b j = index_of b j == SHN_UNDEF

abbrev pub is_absolute : List ℕ → ℕ → Bool
is_absolute b j = index_of b j == SHN_ABS

abbrev pub is_common : List ℕ → ℕ → Bool
is_common b j = index_of b j == SHN_COMMON

-- the index is a section's number
abbrev pub has_section : List ℕ → ℕ → Bool
has_section b j = nat_lt (index_of b j) SHN_LORESERVE

-- the section of symbol j, where its index is a section's number
abbrev pub section_index : List ℕ → ℕ → Option ℕ
section_index b j = if has_section b j then Some (index_of b j) else None

-- symbol j lies in a kept section
abbrev pub lies_in_kept : List ℕ → ℕ → Bool
lies_in_kept b j = has_section b j && is_kept_sort (sort_of b (index_of b j))

-- symbol j lies in text
abbrev pub lies_in_text : List ℕ → ℕ → Bool
lies_in_text b j = has_section b j && is_text_sort (sort_of b (index_of b j))

-- the name is `.TOC.`, that of the base of the table of contents
abbrev pub is_toc_base : List ℕ → ℕ → Bool
is_toc_base b j = bytes_eq (name_of b j) (codes ".TOC.")

-- what tells a function's entry points: the high three bits of st_other
abbrev pub entry_points : List ℕ → ℕ → ℕ
entry_points b j = st_other b j / 32

-- how many bytes the local entry point lies past the global one
abbrev pub local_entry : ℕ → ℕ
local_entry e = 2 ^ e / 4 * 4

-- a binding is one of the three that are known
abbrev pub is_known_binding : ℕ → Bool
is_known_binding binding = binding == STB_LOCAL || binding == STB_GLOBAL || binding == STB_WEAK

-- an index is one of so many sections, or means an absolute or a common symbol
abbrev pub is_known_index : ℕ → ℕ → Bool
is_known_index sections index =
    (nat_lt index SHN_LORESERVE && nat_lt index sections) || index == SHN_ABS || index == SHN_COMMON

-- no file defines `.TOC.`, and what is common has a name for other files
abbrev pub is_unfit_symbol : List ℕ → ℕ → Bool
is_unfit_symbol b j =
    not (is_known_binding (binding b j)) || not (is_known_index (e_shnum b) (index_of b j))
    || (is_toc_base b j && not (is_undefined b j))
    || (is_local b j && is_common b j)

-- what a link leaves out
abbrev pub is_left_out_symbol : List ℕ → ℕ → Bool
is_left_out_symbol b j =
    symbol_type b j == STT_GNU_IFUNC || binding b j == STB_GNU_UNIQUE || index_of b j == SHN_XINDEX

-- why symbol j of a file is refused: thread-local storage, and what is left out or unfit; the value of a common symbol is its alignment
unfoldable pub symbol_refusal : ℕ → List ℕ → ℕ → Option Refusal
symbol_refusal file b j =
    when (symbol_type b j == STT_TLS) (Tls file (Symbol j))
    orelse when (is_left_out_symbol b j) (Unsupported file (Symbol j))
    orelse when (is_unfit_symbol b j) (BadSymbol file j)
    orelse when (is_common b j && not (is_power_up_to ALIGN_LIMIT (st_value b j))) (BadAlign file (Symbol j))

-- the entry points of a symbol at an offset of a text section of some size: there is one for 0 and 1; for 2 to 6 there are two, of
-- which the global one is an instruction's place and the local one lies in the section; 7 is reserved
abbrev pub has_entries : ℕ → ℕ → ℕ → Bool
has_entries e offset size = nat_lt e 2 || (nat_lt e 7 && offset % 4 == 0 && nat_lt (offset + local_entry e) size)

-- symbol j lies in text, with entry points that it can't have
abbrev pub has_unfit_entries : List ℕ → ℕ → Bool
has_unfit_entries b j = lies_in_text b j && not (has_entries (entry_points b j) (st_value b j) (sh_size b (index_of b j)))

-- why symbol j of a file is refused where it lies in a kept section: it is past the end, or has entry points that it can't have
unfoldable pub value_refusal : ℕ → List ℕ → ℕ → Option Refusal
value_refusal file b j =
    when (lies_in_kept b j && (nat_lt (sh_size b (index_of b j)) (st_value b j) || has_unfit_entries b j)) (BadSymbol file j)
