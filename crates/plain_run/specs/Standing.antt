-- What stands at a place of text, by the relocation records whose fields have bytes of the word there (ELFv2 ABI, "Function Call", "TOC
-- Pointer Usage" and "Relocation Descriptions").
use Rattle.std.specs.Prelude.{ℕ, ◌-◌, ◌/◌, ◌%◌, ◌^◌, Bool, true, false, ◌&&◌, ◌==◌, nat_le, nat_lt, List, [], ◌∷◌, map, Option, Some, None, is_some, slice_index, if◌then◌else◌}
use Rattle.elf64_records.specs.Sections.{sh_size}
use Rattle.object_set.specs.declared.places.SectionId.{SectionId}
use Rattle.object_set.specs.Files.{file_at}
use Rattle.reloc_fields.specs.declared.kind.Kind.{Kind}
use Rattle.stub_kinds.specs.declared.class.Class.{Class}
use Rattle.stub_kinds.specs.declared.class.Class.TheVariants as class
use Rattle.symbol_table.specs.declared.fields.RecordField.{RecordField}
use Rattle.symbol_table.specs.declared.prologue.PrologueForm.{PrologueForm}
use Rattle.symbol_table.specs.declared.prologue.PrologueForm.TheVariants.{FromEntry, Absolute}
use Rattle.symbol_table.specs.Fields.{kind_numbered, fields_meeting}
use Rattle.symbol_table.specs.Prologue.{word_in, facts_of as facts_of_form, has_recognised_prologue}
use Rattle.symbol_table.specs.Text.{text_sections}
use Rattle.call_sites.specs.declared.site.CallSite.{CallSite}
use Rattle.call_sites.specs.Sites.{text_section, linkage_of, is_call, facts_of, call_site}
use Rattle.pcrel_rewrite.specs.declared.text_pairs.TextPair.{TextPair}
use Rattle.pcrel_rewrite.specs.TextPairs.{head_at}
use Rattle.plain_machine.specs.declared.place.TextPlace.{TextPlace}
use Rattle.plain_run.specs.declared.standing.Standing.{Standing}
use Rattle.plain_run.specs.declared.standing.Standing.TheVariants as standing

-- a call of this class is one of a caller that has a TOC base in r2
abbrev pub has_toc : Class → Bool
has_toc class.Same = true
has_toc class.Switch = true
has_toc class.Save = true
has_toc class.NearN = false
has_toc class.EntrySave = true
has_toc class.EntryBare = true
has_toc class.EntryN = false

abbrev pub is_with_toc : Option Class → Bool
is_with_toc None = false
is_with_toc (Some class) = has_toc class

-- a call saves the TOC base of its caller, which the restore slot behind it gives back
abbrev pub saves_base : CallSite → Bool
saves_base site = site.slot && is_with_toc site.class

-- the form of a recognised prologue, by the high half of its first word
abbrev pub form_of : ℕ → PrologueForm
form_of word = if word / 2 ^ 16 == (facts_of_form FromEntry).high_half then FromEntry else Absolute

-- the place of the word before
abbrev pub place_before : TextPlace → TextPlace
place_before p = record { section = p.section; offset = p.offset - 4 }

-- the sizes of the text sections
abbrev pub text_size : List (List ℕ) → SectionId → ℕ
text_size files s = sh_size (file_at files s.file) s.section

abbrev pub text_sizes : List (List ℕ) → List ℕ
text_sizes files = map (text_size files) (text_sections files)

-- the one field among these, if it begins at an offset
abbrev pub only_field : ℕ → List RecordField → Option RecordField
only_field offset [] = None
only_field offset (f ∷ []) = if f.start == offset then Some f else None
only_field offset (f ∷ g ∷ fields) = None

module _ (files : List (List ℕ)) where
  -- the section of a place, its file, and the word at a place
  abbrev pub section_at : TextPlace → SectionId
  section_at p = text_section files p.section

  abbrev pub file_of : TextPlace → List ℕ
  file_of p = file_at files (section_at p).file

  abbrev pub word_at : TextPlace → ℕ
  word_at p = word_in (file_of p) (section_at p).section p.offset

  -- a word of a section stands at a place
  abbrev pub is_word : TextPlace → Bool
  is_word p = nat_lt p.offset (slice_index (text_sizes files) p.section) && p.offset % 4 == 0

  -- the fields that have bytes of the word, and the one that it begins with, if that is all
  abbrev pub fields_at : TextPlace → List RecordField
  fields_at p = fields_meeting (section_at p).file (file_of p) (section_at p).section p.offset 4

  abbrev pub field_at : TextPlace → Option RecordField
  field_at p = only_field p.offset (fields_at p)

  -- a recognised prologue begins at a place, or with the word before
  abbrev pub is_entry : TextPlace → Bool
  is_entry p = has_recognised_prologue (section_at p).file (file_of p) (section_at p).section p.offset

  abbrev pub is_base : TextPlace → Bool
  is_base p = nat_le 4 p.offset && is_entry (place_before p)

  module _ (groups : List ℕ) (pairs : List TextPair) where
    -- the call with which a field begins
    abbrev pub call_by : Option RecordField → Option CallSite
    call_by None = None
    call_by (Some f) = if is_call (file_at files f.id.file) f then Some (call_site files groups f) else None

    -- a call before a place that saves its caller's TOC base, if one does
    abbrev pub saving : Option CallSite → Option CallSite
    saving None = None
    saving (Some site) = if saves_base site then Some site else None

    abbrev pub saving_before : TextPlace → Option CallSite
    saving_before p = if nat_le 4 p.offset then saving (call_by (field_at (place_before p))) else None

    -- a word of which no field has bytes
    abbrev pub access_by : Option ℕ → Standing
    access_by None = standing.Word
    access_by (Some head) = standing.Access head

    abbrev pub restore_by : TextPlace → Option CallSite → Standing
    restore_by p None = access_by (head_at pairs p.section p.offset)
    restore_by p (Some site) = standing.Restore site

    -- a word with which the field of a record of a kind begins
    abbrev pub field_by : TextPlace → RecordField → Kind → Standing
    field_by p f kind =
        if is_some (linkage_of kind) then standing.Call (call_site files groups f)
        else (if is_entry p then standing.Entry (form_of (word_at p))
        else (if is_base p then standing.Base
        else standing.Field f.id kind))

    abbrev pub begun_by : TextPlace → RecordField → Option Kind → Standing
    begun_by p f None = standing.Touched
    begun_by p f (Some kind) = field_by p f kind

    abbrev pub touched_by : TextPlace → Option RecordField → Standing
    touched_by p None = standing.Touched
    touched_by p (Some f) = begun_by p f (kind_numbered (facts_of (file_at files f.id.file) f).kind)

    abbrev pub standing_by : TextPlace → List RecordField → Standing
    standing_by p [] = restore_by p (saving_before p)
    standing_by p (f ∷ fields) = touched_by p (only_field p.offset (f ∷ fields))

    abbrev pub standing_at : TextPlace → Standing
    standing_at p = if is_word p then standing_by p (fields_at p) else standing.Outside
