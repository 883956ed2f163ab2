-- The prologue of a function with two entry points, by which it makes its TOC base (ELFv2 ABI, 2.3.1 "TOC Pointer Usage" and 3.4.1 "Symbol
-- Values"). It is recognised where nothing but the two records of its words touches them.
use Rattle.std.specs.Prelude.{ℕ, ℤ, pos, ◌+◌, ◌/◌, ◌^◌, Bool, List, ◌&&◌, ◌||◌, ◌==◌, length}
use Rattle.std.specs.List.{list_any, range_with_len}
use Rattle.std.specs.Ordering.{int_eq}
use Rattle.ppc_bytes.specs.Bytes.{number_at}
use Rattle.elf64_records.specs.Sections.{section_bytes}
use Rattle.elf64_records.specs.Symbols.{symbol_count, st_value}
use Rattle.elf64_records.specs.Records.{rela_of}
use Rattle.object_set.specs.Sections.{is_text}
use Rattle.object_set.specs.Symbols.{has_section, index_of, entry_points, is_toc_base}
use Rattle.reloc_fields.specs.declared.kind.Kind.{Kind}
use Rattle.reloc_fields.specs.declared.kind.Kind.TheVariants.{Addr16Ha, Addr16Lo, Rel16Ha, Rel16Lo}
use Rattle.reloc_fields.specs.Table.{line_of}
use Rattle.symbol_table.specs.declared.fields.RecordField.{RecordField}
use Rattle.symbol_table.specs.declared.prologue.FormFacts.{FormFacts}
use Rattle.symbol_table.specs.declared.prologue.TheConstants.{LOW_HIGH_HALF}
use Rattle.symbol_table.specs.declared.prologue.PrologueForm.{PrologueForm}
use Rattle.symbol_table.specs.declared.prologue.PrologueForm.TheVariants.{FromEntry, Absolute}
use Rattle.symbol_table.specs.Fields.{fields_meeting}

-- the word at an offset of a section
abbrev pub word_in : List ℕ → ℕ → ℕ → ℕ
word_in b section at = number_at 4 (section_bytes b section) at

-- symbol j of a file stands at an offset of a section, and its local entry point is two instructions past the global one
abbrev pub stands_at : List ℕ → ℕ → ℕ → ℕ → Bool
stands_at b section at j = has_section b j && index_of b j == section && st_value b j == at && entry_points b j == 3

-- one of a file's symbols does
abbrev pub has_two_entries : List ℕ → ℕ → ℕ → Bool
has_two_entries b section at = list_any (stands_at b section at) (range_with_len 0 (symbol_count b))

-- the high half of a form's first word, and the relocations of both words: `addis r2,r12` and `addi r2,r2` add the distance from the entry,
-- which r12 holds, to the base; `lis r2` and `addi r2,r2` make the base itself
abbrev pub facts_of : PrologueForm → FormFacts
facts_of FromEntry = record { high_half = 0x3C4C; high = Rel16Ha; low = Rel16Lo; low_addend = pos 4 }
facts_of Absolute = record { high_half = 0x3C40; high = Addr16Ha; low = Addr16Lo; low_addend = pos 0 }

-- a field begins at an offset, and its record is of a kind, against `.TOC.`, with an addend
abbrev pub is_half : List ℕ → Kind → ℤ → ℕ → RecordField → Bool
is_half b kind addend at field =
    let facts = rela_of b field.id.table field.id.entry in
    facts.kind == (line_of kind).number && is_toc_base b facts.symbol && int_eq facts.addend addend && field.start == at

-- fields are two: that of the high half at an offset, and that of the low half in the next word
abbrev pub are_halves : List ℕ → FormFacts → ℕ → List RecordField → Bool
are_halves b form at fields =
    length fields == 2
    && list_any (is_half b form.high (pos 0) at) fields
    && list_any (is_half b form.low form.low_addend (at + 4)) fields

-- the two words at an offset of a section are a prologue of a form, and no other record's field has bytes of them
abbrev pub has_form : ℕ → List ℕ → ℕ → ℕ → PrologueForm → Bool
has_form file b section at form =
    word_in b section at / 2 ^ 16 == (facts_of form).high_half
    && word_in b section (at + 4) / 2 ^ 16 == LOW_HIGH_HALF
    && are_halves b (facts_of form) at (fields_meeting file b section at 8)

abbrev pub has_some_form : ℕ → List ℕ → ℕ → ℕ → Bool
has_some_form file b section at = has_form file b section at FromEntry || has_form file b section at Absolute

-- a place of a text section of a file has a recognised prologue
unfoldable pub has_recognised_prologue : ℕ → List ℕ → ℕ → ℕ → Bool
has_recognised_prologue file b section at =
    is_text b section && has_two_entries b section at && has_some_form file b section at
