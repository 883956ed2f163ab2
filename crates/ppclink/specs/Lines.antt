-- The lines that are printed, as their bytes.
use Rattle.std.specs.Prelude.{ℕ, false, List, [], ◌++◌, codes, decimal, slice_index_or}
use Rattle.std.specs.Fmt.{digits, signed_decimal}
use Rattle.elf64_records.specs.declared.fault.Place.{Place}
use Rattle.elf64_records.specs.declared.fault.Place.TheVariants.{File, Section, Symbol, Record}
use Rattle.object_set.specs.declared.refusal.Site.{Site}
use Rattle.object_set.specs.declared.refusal.Refusal.{Refusal}
use Rattle.object_set.specs.declared.refusal.Refusal.TheVariants.{FileTooLong, NotElf, NotPpc64Le, SharedObject, NotObject, BadAbi, BadTable, Unsupported, UnsupportedAt, Tls, TlsAt, BadSection, BadAlign, BadSymbol, Duplicate, NoEntry, EntryNotCode, UnknownReloc, BadSite, Unresolved, NotCode, DataTooBig, NoRestore, TextTooBig, StubReach, Overflow, BadArchive, TooManyFiles, Memory}
use Rattle.ppc_archive.specs.Expand.{NamedRefusal}

-- a line of the linker
abbrev pub line : List ℕ → List ℕ
line text = codes "ppclink: " ++ text ++ codes "\n"

-- the words aren't understood
abbrev pub usage_line : List ℕ
usage_line = line (codes "words not understood")

-- a file can't be read
abbrev pub unread_line : List ℕ → List ℕ
unread_line name = line (codes "cannot read " ++ name)

-- the name of a file, by its number
abbrev pub name_in : List (List ℕ) → ℕ → List ℕ
name_in names file = slice_index_or names file []

-- where in a file
abbrev pub section_text : ℕ → List ℕ
section_text i = codes " section " ++ decimal i

abbrev pub place_text : Place → List ℕ
place_text File = []
place_text (Section i) = section_text i
place_text (Symbol j) = codes " symbol " ++ decimal j
place_text (Record i k) = codes " record " ++ decimal i ++ codes " " ++ decimal k

-- an offset in a section, in hexadecimal digits
abbrev pub offset_text : ℕ → ℕ → List ℕ
offset_text section offset = section_text section ++ codes " offset 0x" ++ digits 16 false offset

-- where the field of a record is
abbrev pub site_text : Site → List ℕ
site_text site = offset_text site.section site.offset

-- what is wrong at a place of a file
abbrev pub about : List ℕ → List ℕ → List ℕ → List ℕ
about name place what = line (name ++ place ++ codes ": " ++ what)

-- a file has more bytes than it may have
abbrev pub too_long_line : List ℕ → List ℕ
too_long_line name = about name [] (codes "file too long")

-- the line of a refusal, where each file is called by its number so; the refusal that memory was refused has none
abbrev pub refusal_text : (ℕ → List ℕ) → Refusal → List ℕ
refusal_text called (FileTooLong file) = too_long_line (called file)
refusal_text called (NotElf file) = about (called file) [] (codes "not an ELF file")
refusal_text called (NotPpc64Le file) = about (called file) [] (codes "not little-endian ppc64")
refusal_text called (SharedObject file) = about (called file) [] (codes "shared object")
refusal_text called (NotObject file) = about (called file) [] (codes "not a relocatable file")
refusal_text called (BadAbi file) = about (called file) [] (codes "not ELFv2")
refusal_text called (BadTable file place) = about (called file) (place_text place) (codes "bad table")
refusal_text called (Unsupported file place) = about (called file) (place_text place) (codes "unsupported")
refusal_text called (UnsupportedAt site) = about (called site.file) (site_text site) (codes "unsupported")
refusal_text called (Tls file place) = about (called file) (place_text place) (codes "thread-local storage")
refusal_text called (TlsAt site) = about (called site.file) (site_text site) (codes "thread-local storage")
refusal_text called (BadSection file i) = about (called file) (section_text i) (codes "bad section")
refusal_text called (BadAlign file place) = about (called file) (place_text place) (codes "bad alignment")
refusal_text called (BadSymbol file j) = about (called file) (place_text (Symbol j)) (codes "bad symbol")
refusal_text called (Duplicate name a b) =
    line (called a ++ codes " and " ++ called b ++ codes ": defined twice " ++ name)
refusal_text called (NoEntry name) = line (codes "no entry " ++ name)
refusal_text called (EntryNotCode name) = line (codes "entry is not code " ++ name)
refusal_text called (UnknownReloc site n) = about (called site.file) (site_text site) (codes "unknown relocation " ++ decimal n)
refusal_text called (BadSite site) = about (called site.file) (site_text site) (codes "bad relocation site")
refusal_text called (Unresolved name site) = about (called site.file) (site_text site) (codes "unresolved " ++ name)
refusal_text called (NotCode site) = about (called site.file) (site_text site) (codes "branch target is not code")
refusal_text called DataTooBig = line (codes "data too big")
refusal_text called (NoRestore site) = about (called site.file) (site_text site) (codes "no nop to restore r2")
refusal_text called TextTooBig = line (codes "text too big")
refusal_text called (StubReach site) = about (called site.file) (site_text site) (codes "stub out of reach")
refusal_text called (Overflow site value) = about (called site.file) (site_text site) (codes "overflow " ++ signed_decimal value)
refusal_text called (BadArchive file at) = about (called file) [] (codes "bad archive at 0x" ++ digits 16 false at)
refusal_text called TooManyFiles = line (codes "too many files")
refusal_text called Memory = []

-- the line of a refusal of files with these names
abbrev pub refusal_line : List (List ℕ) → Refusal → List ℕ
refusal_line names refusal = refusal_text (name_in names) refusal

-- the line of a refusal that comes with the name of its file
abbrev pub fault_line : NamedRefusal → List ℕ
fault_line fault = refusal_text (λ file. fault.name) fault.refusal
