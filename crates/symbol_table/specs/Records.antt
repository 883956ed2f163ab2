-- Why relocation records are refused (ELFv2 ABI, "Relocation Types"; ELF64, "Relocation"). Records are judged in record order, and of one
-- record what comes first in this order is said.
use Rattle.std.specs.Prelude.{ℕ, pos, ◌+◌, ◌-◌, ◌%◌, Bool, true, false, not, List, ◌&&◌, ◌||◌, ◌==◌, nat_lt, nat_le, Option, None, Some, slice_get, if◌then◌else◌}
use Rattle.std.specs.Ordering.{int_eq}
use Rattle.elf64_records.specs.First.{◌orelse◌, when, first_in}
use Rattle.elf64_records.specs.Sections.{sh_size}
use Rattle.elf64_records.specs.Records.{rela_of}
use Rattle.object_set.specs.declared.places.RecordId.{RecordId}
use Rattle.object_set.specs.declared.places.SectionId.{SectionId}
use Rattle.object_set.specs.declared.refusal.Refusal.{Refusal}
use Rattle.object_set.specs.declared.refusal.Refusal.TheVariants.{TlsAt, UnknownReloc, BadSite, UnsupportedAt, Unresolved, NotCode}
use Rattle.object_set.specs.declared.refusal.Site.{Site}
use Rattle.object_set.specs.Files.{file_at}
use Rattle.object_set.specs.Sections.{sort_of}
use Rattle.object_set.specs.Symbols.{name_of}
use Rattle.object_set.specs.Walks.{all_items, record_walk}
use Rattle.reloc_fields.specs.declared.kind.Kind.{Kind}
use Rattle.reloc_fields.specs.declared.kind.Kind.TheVariants as kind
use Rattle.reloc_fields.specs.Table.{line_of}
use Rattle.symbol_table.specs.declared.target.Target.{Target}
use Rattle.symbol_table.specs.declared.target.Target.TheVariants as target
use Rattle.symbol_table.specs.Text.{text_sections, text_number}
use Rattle.symbol_table.specs.Targets.{target_of, is_instruction}
use Rattle.symbol_table.specs.Fields.{kind_numbered, overlaps_earlier}
use Rattle.symbol_table.specs.Prologue.{word_in, has_recognised_prologue}
use Rattle.symbol_table.specs.Sites.{rule_of, admits, is_text_only, suit, are_left_out, is_thread_local}

-- the place of a record, and of the field that it fills
abbrev pub site_of : List ℕ → RecordId → Site
site_of b r = record {
  file = r.file;
  table = r.table;
  entry = r.entry;
  section = r.section;
  offset = (rela_of b r.table r.entry).offset;
}

-- the field of a record of this kind stands in a section of another sort, or passes its end
abbrev pub is_outside : List ℕ → RecordId → Kind → Bool
is_outside b r kind =
    not (admits (rule_of kind).stand (sort_of b r.section))
    || nat_lt (sh_size b r.section) ((rela_of b r.table r.entry).offset + (line_of kind).width)

-- it fills an instruction, and isn't at a multiple of 4; it has bytes of an earlier record's field; or its words don't suit
abbrev pub is_unfit : List ℕ → RecordId → Kind → Bool
is_unfit b r kind =
    let start = (rela_of b r.table r.entry).offset in
    (is_text_only (rule_of kind).stand && not (start % 4 == 0))
    || overlaps_earlier r.file b r
    || not (suit (rule_of kind).words (word_in b r.section start) (word_in b r.section (start + 4)))

-- the word at an offset of a section is one of the two of a recognised prologue
abbrev pub is_in_prologue : ℕ → List ℕ → ℕ → ℕ → Bool
is_in_prologue file b section at =
    has_recognised_prologue file b section at || (nat_le 4 at && has_recognised_prologue file b section (at - 4))

-- a relocation makes the TOC base from the entry in r12
abbrev pub is_prologue_kind : Kind → Bool
is_prologue_kind kind.Rel16Ha = true
is_prologue_kind kind.Rel16Lo = true
is_prologue_kind other = false

-- a relocation is that of a load from a slot of the table of contents
abbrev pub is_slot_kind : Kind → Bool
is_slot_kind kind.GotPcrel34 = true
is_slot_kind other = false

-- a record asks for what is left out: a distance from r12 elsewhere than in a recognised prologue, a displacement that is a multiple of
-- 4 in another word, or a place beside a slot
abbrev pub is_left_out : List ℕ → RecordId → Kind → Bool
is_left_out b r kind =
    let facts = rela_of b r.table r.entry in
    (is_prologue_kind kind && not (is_in_prologue r.file b r.section facts.offset))
    || are_left_out (rule_of kind).words (word_in b r.section facts.offset)
    || (is_slot_kind kind && not (int_eq facts.addend (pos 0)))

-- a relocation is made of its record's symbol; that of the TOC base itself isn't
abbrev pub looks_at_symbol : Kind → Bool
looks_at_symbol kind.Toc = false
looks_at_symbol other = true

-- a place of text is an instruction's
abbrev pub is_code_in : List (List ℕ) → ℕ → Option SectionId → Bool
is_code_in files offset None = false
is_code_in files offset (Some s) = is_instruction (file_at files s.file) s.section offset

abbrev pub is_code : List (List ℕ) → ℕ → ℕ → Bool
is_code files section offset = is_code_in files offset (slice_get (text_sections files) section)

-- a call goes to an instruction, or to a weak symbol that stands for nothing
abbrev pub may_call : List (List ℕ) → Target → Bool
may_call files (target.Code section offset) = is_code files section offset
may_call files (target.WeakNone addend) = true
may_call files other = false

-- a conditional branch goes to an instruction of its own section, of which this is the number among text sections
abbrev pub may_branch_from : List (List ℕ) → ℕ → Target → Bool
may_branch_from files own (target.Code section offset) = section == own && is_code files section offset
may_branch_from files own other = false

abbrev pub may_branch : List (List ℕ) → Option ℕ → Target → Bool
may_branch files None target = false
may_branch files (Some own) target = may_branch_from files own target

-- a relocation may go to a target, where the record's section has this number among text sections, if it is one
abbrev pub may_go : List (List ℕ) → Option ℕ → Kind → Target → Bool
may_go files own kind.Rel24 target = may_call files target
may_go files own kind.Rel24Notoc target = may_call files target
may_go files own kind.Rel14 target = may_branch files own target
may_go files own other target = true

-- why a record is refused for its target: its symbol stands for nothing and isn't weak, or a branch goes to no instruction
abbrev pub target_fault : List (List ℕ) → RecordId → Kind → Option Target → Option Refusal
target_fault files r kind None =
    let b = file_at files r.file in
    Some (Unresolved (name_of b (rela_of b r.table r.entry).symbol) (site_of b r))
target_fault files r kind (Some target) =
    when (not (may_go files (text_number files r.file r.section) kind target)) (NotCode (site_of (file_at files r.file) r))

abbrev pub target_refusal : List (List ℕ) → RecordId → Kind → Option Refusal
target_refusal files r kind =
    let facts = rela_of (file_at files r.file) r.table r.entry in
    if looks_at_symbol kind then target_fault files r kind (target_of files r.file facts.symbol facts.addend) else None

-- why a record of a known kind is refused: one that fills no bytes isn't
unfoldable pub kind_refusal : List (List ℕ) → RecordId → Kind → Option Refusal
kind_refusal files r kind =
    let b = file_at files r.file in
    if (line_of kind).width == 0 then None
    else (when (is_outside b r kind || is_unfit b r kind) (BadSite (site_of b r))
    orelse when (is_left_out b r kind) (UnsupportedAt (site_of b r))
    orelse target_refusal files r kind)

abbrev pub known_refusal : List (List ℕ) → RecordId → Option Kind → Option Refusal
known_refusal files r None =
    let b = file_at files r.file in
    Some (UnknownReloc (site_of b r) (rela_of b r.table r.entry).kind)
known_refusal files r (Some kind) = kind_refusal files r kind

-- why a record is refused
unfoldable pub record_refusal : List (List ℕ) → RecordId → Option Refusal
record_refusal files r =
    let b = file_at files r.file in
    let number = (rela_of b r.table r.entry).kind in
    when (is_thread_local number) (TlsAt (site_of b r)) orelse known_refusal files r (kind_numbered number)

-- the first of the records' refusals, in record order
abbrev pub records_refusal : List (List ℕ) → Option Refusal
records_refusal files = first_in (record_refusal files) (all_items record_walk files)
