-- The calls of a link: where each stands, how it comes to its callee, and where r2 can be restored behind it (ELFv2 ABI, "Function
-- Call" and "Relocation Types Table": R_PPC64_REL24 and R_PPC64_REL24_NOTOC).
use Rattle.std.specs.Prelude.{ℕ, pos, ◌+◌, ◌%◌, Bool, List, [], not, ◌&&◌, ◌==◌, nat_le, filter, map, Option, None, Some, is_some}
use Rattle.std.specs.Prelude.{false, unwrap_or, slice_index, if◌then◌else◌}
use Rattle.std.specs.List.{flat_map, list_any, range_with_len, slice_index_or}
use Rattle.std.specs.Ordering.{int_eq}
use Rattle.elf64_records.specs.FileHeader.{e_shnum}
use Rattle.elf64_records.specs.Sections.{sh_size}
use Rattle.elf64_records.specs.Records.{RecordFacts, rela_of}
use Rattle.object_set.specs.declared.places.SectionId.{SectionId}
use Rattle.object_set.specs.declared.places.SymbolId.{SymbolId}
use Rattle.object_set.specs.Files.{file_at}
use Rattle.object_set.specs.Sections.{is_text}
use Rattle.object_set.specs.Symbols.{entry_points}
use Rattle.object_set.specs.Walks.{Walk, all_items}
use Rattle.reloc_fields.specs.declared.kind.Kind.{Kind}
use Rattle.reloc_fields.specs.declared.kind.Kind.TheVariants as kind
use Rattle.stub_kinds.specs.Stubs.{nop}
use Rattle.symbol_table.specs.declared.fields.RecordField.{RecordField}
use Rattle.symbol_table.specs.declared.target.Target.{Target}
use Rattle.symbol_table.specs.declared.target.Target.TheVariants as target
use Rattle.symbol_table.specs.Fields.{kind_numbered, fields_of, meets}
use Rattle.symbol_table.specs.Prologue.{word_in, has_recognised_prologue}
use Rattle.symbol_table.specs.Records.{site_of}
use Rattle.symbol_table.specs.Targets.{target_of, definition_of}
use Rattle.symbol_table.specs.Text.{text_sections, text_index}
use Rattle.call_sites.specs.declared.class.Callee.{Callee}
use Rattle.call_sites.specs.declared.class.Linkage.{Linkage}
use Rattle.call_sites.specs.declared.class.Linkage.TheVariants.{WithToc, WithoutToc}
use Rattle.call_sites.specs.declared.site.CallSite.{CallSite}
use Rattle.call_sites.specs.Classes.{changes_r2, class_of, entry_offset}

-- how a call of a kind of relocation is linked: its caller has its TOC base in r2, or has not. Other kinds are no calls
abbrev pub linkage_of : Kind → Option Linkage
linkage_of kind.Rel24 = Some WithToc
linkage_of kind.Rel24Notoc = Some WithoutToc
linkage_of other = None

abbrev pub linkage_in : Option Kind → Option Linkage
linkage_in None = None
linkage_in (Some kind) = linkage_of kind

-- what the record of a field says
abbrev pub facts_of : List ℕ → RecordField → RecordFacts
facts_of b f = rela_of b f.id.table f.id.entry

-- how the call of a field is linked, if it is a call's
abbrev pub field_linkage : List ℕ → RecordField → Option Linkage
field_linkage b f = linkage_in (kind_numbered (facts_of b f).kind)

abbrev pub is_call : List ℕ → RecordField → Bool
is_call b f = is_some (field_linkage b f)

abbrev pub begins_at : ℕ → ℕ → RecordField → Bool
begins_at section offset f = f.id.section == section && f.start == offset

-- the calls at an offset of a section; fields don't overlap, so that there is one at most
abbrev pub calls_at : ℕ → List ℕ → ℕ → ℕ → List RecordField
calls_at file b section offset = filter (λ f. is_call b f && begins_at section offset f) (fields_of file b)

-- those of a text section, in order of offsets
unfoldable pub calls_in : ℕ → List ℕ → ℕ → List RecordField
calls_in file b section =
    if is_text b section then flat_map (calls_at file b section) (range_with_len 0 (sh_size b section)) else []

-- those of all files in site order: by file, by section, by offset
abbrev pub call_walk : Walk RecordField
call_walk = record { count = e_shnum; items = calls_in }

abbrev pub call_fields : List (List ℕ) → List RecordField
call_fields files = all_items call_walk files

-- the branch sets LR, so that its callee comes back: LK, the lowest bit
abbrev pub is_link : List ℕ → ℕ → ℕ → Bool
is_link b section offset = word_in b section offset % 2 == 1

-- the word behind the call at an offset is a restore slot: control comes back to it, it is a nop of the section, and no record's field has
-- bytes of it
abbrev pub has_slot : ℕ → List ℕ → ℕ → ℕ → Bool
has_slot file b section offset =
    is_link b section offset
    && nat_le (offset + 8) (sh_size b section)
    && word_in b section (offset + 4) == nop
    && not (list_any (meets section (offset + 4) 4) (fields_of file b))

-- text section k
abbrev pub no_section : SectionId
no_section = record { file = 0; section = 0 }

abbrev pub text_section : List (List ℕ) → ℕ → SectionId
text_section files k = slice_index_or (text_sections files) k no_section

-- a place of text has a recognised prologue
abbrev pub is_recognised : List (List ℕ) → ℕ → ℕ → Bool
is_recognised files k offset =
    let s = text_section files k in has_recognised_prologue s.file (file_at files s.file) s.section offset

-- the entry points of a symbol that defines a callee
abbrev pub definition_entries : List (List ℕ) → Option SymbolId → ℕ
definition_entries files None = 0
definition_entries files (Some d) = entry_points (file_at files d.file) d.symbol

-- the entry points of a call's callee: those of the symbol that defines it. A place beside a symbol's own is no function's, and has one
abbrev pub callee_entries : List (List ℕ) → RecordField → ℕ
callee_entries files f =
    let facts = facts_of (file_at files f.id.file) f in
    if int_eq facts.addend (pos 0) then definition_entries files (definition_of files f.id.file facts.symbol) else 0

-- the callee of a call that goes to a place of text. Groups are compared by their numbers, since two may have one base
abbrev pub callee_of : List (List ℕ) → List ℕ → RecordField → ℕ → ℕ → Callee
callee_of files groups f k offset = record {
  entries = callee_entries files f;
  recognised = is_recognised files k offset;
  same_group = slice_index groups (text_section files k).file == slice_index groups f.id.file;
}

-- a call to nothing, an undefined weak function
abbrev pub call_of_nothing : List (List ℕ) → RecordField → CallSite
call_of_nothing files f =
    let b = file_at files f.id.file in
    record {
      site = site_of b f.id;
      section = text_index files f.id.file f.id.section;
      offset = f.start;
      link = is_link b f.id.section f.start;
      class = None;
      e = 0;
      callee = 0;
      to_section = 0;
      to_offset = 0;
      slot = has_slot f.id.file b f.id.section f.start;
      restore = false;
    }

-- a call to a callee at an offset of text section k
abbrev pub call_of : List (List ℕ) → RecordField → ℕ → ℕ → Callee → CallSite
call_of files f k offset callee =
    let linkage = unwrap_or (field_linkage (file_at files f.id.file) f) WithToc in
    record (call_of_nothing files f) {
      class = Some (class_of linkage callee);
      e = callee.entries;
      callee = offset;
      to_section = k;
      to_offset = offset + entry_offset linkage callee;
      restore = changes_r2 (class_of linkage callee);
    }

-- a call by where its record goes
abbrev pub call_to : List (List ℕ) → List ℕ → RecordField → Option Target → CallSite
call_to files groups f (Some (target.Code k offset)) = call_of files f k offset (callee_of files groups f k offset)
call_to files groups f other = call_of_nothing files f

-- where the record of a call goes
abbrev pub call_target : List (List ℕ) → RecordField → Option Target
call_target files f =
    let facts = facts_of (file_at files f.id.file) f in
    target_of files f.id.file facts.symbol facts.addend

unfoldable pub call_site : List (List ℕ) → List ℕ → RecordField → CallSite
call_site files groups f = call_to files groups f (call_target files f)

-- all call sites of a link in site order, where the files are of these TOC groups
abbrev pub call_sites : List (List ℕ) → List ℕ → List CallSite
call_sites files groups = map (call_site files groups) (call_fields files)
