-- What sort a section of an object file is of, and what a link can't take (ELF64, "Section Header"; ELFv2 ABI, 3.2 "Special
-- Sections").
use Rattle.std.specs.Prelude.{ℕ, ◌%◌, Bool, true, false, not, List, ◌||◌, ◌&&◌, ◌==◌, nat_le, bit_and, max, codes, Option, None, if◌then◌else◌}
use Rattle.std.specs.Int.{is_power_of_two}
use Rattle.std.specs.Str.{bytes_eq}
use Rattle.ppc_bytes.specs.declared.constants.TheConstants.{SHF_WRITE, SHF_EXECINSTR, SHF_TLS, SHF_COMPRESSED, SHT_PROGBITS, SHT_NOTE, SHT_NOBITS, SHT_REL, SHT_INIT_ARRAY, SHT_FINI_ARRAY, SHT_GROUP, SHT_SYMTAB_SHNDX}
use Rattle.object_set.specs.declared.sections.TheConstants.{ALIGN_LIMIT, TOC_ALIGN_LIMIT}
use Rattle.elf64_records.specs.declared.fault.Place.TheVariants.{Section}
use Rattle.elf64_records.specs.First.{◌orelse◌, when}
use Rattle.elf64_records.specs.Sections.{sh_type, sh_flags, sh_size, sh_addralign, is_kept, section_of}
use Rattle.object_set.specs.declared.sort.Sort.{Sort}
use Rattle.object_set.specs.declared.sort.Sort.TheVariants.{Text, Zeroed, Toc, Writable, ReadOnly, Dropped}
use Rattle.object_set.specs.declared.refusal.Refusal.{Refusal}
use Rattle.object_set.specs.declared.refusal.Refusal.TheVariants.{Unsupported, Tls, BadSection, BadAlign}

-- section i has a flag
abbrev pub has_flag : List ℕ → ℕ → ℕ → Bool
has_flag b i flag = not (bit_and (sh_flags b i) flag == 0)

abbrev pub is_writable : List ℕ → ℕ → Bool
is_writable b i = has_flag b i SHF_WRITE

abbrev pub is_executable : List ℕ → ℕ → Bool
is_executable b i = has_flag b i SHF_EXECINSTR

abbrev pub is_thread_local : List ℕ → ℕ → Bool
is_thread_local b i = has_flag b i SHF_TLS

abbrev pub is_compressed : List ℕ → ℕ → Bool
is_compressed b i = has_flag b i SHF_COMPRESSED

abbrev pub is_nobits : List ℕ → ℕ → Bool
is_nobits b i = sh_type b i == SHT_NOBITS

-- the section's name is `.toc`
abbrev pub is_named_toc : List ℕ → ℕ → Bool
is_named_toc b i = bytes_eq (section_of b i).name (codes ".toc")

-- the sort of section i, by the first line that fits; only a kept section, one with SHF_ALLOC, isn't dropped
unfoldable pub sort_of : List ℕ → ℕ → Sort
sort_of b i =
    if not (is_kept b i) then Dropped
    else (if is_executable b i then Text
    else (if is_nobits b i then Zeroed
    else (if is_named_toc b i then Toc
    else (if is_writable b i then Writable
    else ReadOnly))))

-- a section of this sort is text
abbrev pub is_text_sort : Sort → Bool
is_text_sort Text = true
is_text_sort Zeroed = false
is_text_sort Toc = false
is_text_sort Writable = false
is_text_sort ReadOnly = false
is_text_sort Dropped = false

-- a section of this sort is kept
abbrev pub is_kept_sort : Sort → Bool
is_kept_sort Text = true
is_kept_sort Zeroed = true
is_kept_sort Toc = true
is_kept_sort Writable = true
is_kept_sort ReadOnly = true
is_kept_sort Dropped = false

-- section i is text
abbrev pub is_text : List ℕ → ℕ → Bool
is_text b i = is_text_sort (sort_of b i)

-- the alignment of section i, where 0 counts as 1; that of text is at least an instruction's size
abbrev pub align_of : List ℕ → ℕ → ℕ
align_of b i = max (if is_text b i then 4 else 1) (sh_addralign b i)

-- a power of two up to a limit
abbrev pub is_power_up_to : ℕ → ℕ → Bool
is_power_up_to limit a = is_power_of_two a && nat_le a limit

-- a type that this linker leaves out
abbrev pub has_left_out_type : List ℕ → ℕ → Bool
has_left_out_type b i =
    sh_type b i == SHT_REL || sh_type b i == SHT_GROUP || sh_type b i == SHT_SYMTAB_SHNDX

-- a type that a kept section may have
abbrev pub is_kept_type : ℕ → Bool
is_kept_type kind =
    kind == SHT_PROGBITS || kind == SHT_NOTE || kind == SHT_NOBITS || kind == SHT_INIT_ARRAY || kind == SHT_FINI_ARRAY

-- instructions that may be written, that aren't in the file, or that aren't whole
abbrev pub is_unfit_text : List ℕ → ℕ → Bool
is_unfit_text b i = is_executable b i && (is_writable b i || is_nobits b i || not (sh_size b i % 4 == 0))

-- a part of the table of contents that is instructions, or isn't in the file
abbrev pub is_unfit_toc : List ℕ → ℕ → Bool
is_unfit_toc b i = is_named_toc b i && (is_executable b i || not (sh_type b i == SHT_PROGBITS))

-- the alignment is 0, or a power of two up to 0x10000, in `.toc` up to 0x100
abbrev pub has_fit_align : List ℕ → ℕ → Bool
has_fit_align b i =
    sh_addralign b i == 0 || is_power_up_to (if is_named_toc b i then TOC_ALIGN_LIMIT else ALIGN_LIMIT) (sh_addralign b i)

-- why a kept section, number i of a file, is refused
unfoldable pub kept_refusal : ℕ → List ℕ → ℕ → Option Refusal
kept_refusal file b i =
    when (not (is_kept_type (sh_type b i))) (BadSection file i)
    orelse when (is_compressed b i) (Unsupported file (Section i))
    orelse when (is_unfit_text b i) (BadSection file i)
    orelse when (is_unfit_toc b i) (BadSection file i)
    orelse when (not (has_fit_align b i)) (BadAlign file (Section i))

-- why section i of a file is refused
unfoldable pub section_refusal : ℕ → List ℕ → ℕ → Option Refusal
section_refusal file b i =
    when (has_left_out_type b i) (Unsupported file (Section i))
    orelse when (is_kept b i && is_thread_local b i) (Tls file (Section i))
    orelse (if is_kept b i then kept_refusal file b i else None)
