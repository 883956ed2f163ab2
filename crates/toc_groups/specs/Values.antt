-- Values of relocation records (ELFv2 ABI, "Relocation Notations"): S is the address of the record's symbol, or of its slot, A the
-- addend, P the address of the field, and T the TOC base of the file. Text lies at any addresses, one for each text section.
use Rattle.std.specs.Prelude.{ℕ, ℤ, pos, neg_ℤ, ◌+ℤ◌, ◌+◌, ◌-◌, ◌%◌, ◌^◌, Bool, true, not, List, ◌&&◌, Option, None, Some, unwrap_or, slice_index, int_lt, if◌then◌else◌}
use Rattle.std.specs.Int.{int_rem_euclid}
use Rattle.std.specs.Option.{option_map}
use Rattle.std.specs.Ordering.{int_eq}
use Rattle.elf64_records.specs.First.{when, first_in}
use Rattle.elf64_records.specs.Records.{rela_of}
use Rattle.object_set.specs.declared.places.RecordId.{RecordId}
use Rattle.object_set.specs.declared.refusal.Refusal.{Refusal}
use Rattle.object_set.specs.declared.refusal.Refusal.TheVariants.{Overflow}
use Rattle.object_set.specs.Files.{file_at}
use Rattle.object_set.specs.Sections.{is_text, sort_of}
use Rattle.object_set.specs.Walks.{all_items, record_walk}
use Rattle.reloc_fields.specs.declared.kind.Kind.{Kind}
use Rattle.reloc_fields.specs.Table.{Check, line_of, value}
use Rattle.reloc_fields.specs.Table.Check.{any, signed_16, signed_32, signed_34, either_32, adjusted_32, multiple, multiple_16, multiple_26}
use Rattle.symbol_table.specs.declared.target.Target.{Target}
use Rattle.symbol_table.specs.declared.target.Target.TheVariants.{Data, Code, Number, TocBase, WeakNone}
use Rattle.symbol_table.specs.Fields.{kind_numbered}
use Rattle.symbol_table.specs.Records.{is_slot_kind, looks_at_symbol, site_of}
use Rattle.symbol_table.specs.Sites.{is_data_sort}
use Rattle.symbol_table.specs.Targets.{target_of}
use Rattle.symbol_table.specs.Text.{text_index}
use Rattle.toc_groups.specs.Data.{base_of, section_address, slot_address, target_address}

-- whether a field holds a value, as a test; that it is the table's is a law
abbrev pub is_signed : ℕ → ℤ → Bool
is_signed bits x = not (int_lt x (neg_ℤ (pos (2 ^ (bits - 1))))) && int_lt x (pos (2 ^ (bits - 1)))

abbrev pub is_multiple : ℤ → Bool
is_multiple x = int_eq (int_rem_euclid x (pos 4)) (pos 0)

abbrev pub passes : Check → ℤ → Bool
passes any x = true
passes signed_16 x = is_signed 16 x
passes signed_32 x = is_signed 32 x
passes signed_34 x = is_signed 34 x
passes either_32 x = not (int_lt x (neg_ℤ (pos (2 ^ 31)))) && int_lt x (pos (2 ^ 32))
passes adjusted_32 x = is_signed 32 (x +ℤ pos 0x8000)
passes multiple x = is_multiple x
passes multiple_16 x = is_signed 16 x && is_multiple x
passes multiple_26 x = is_signed 26 x && is_multiple x

-- the address of a place in text, where its sections lie at these addresses
abbrev pub code_address : List ℕ → Target → ℕ
code_address text (Data piece addend) = 0
code_address text (Code section offset) = (slice_index text section + offset) % 2 ^ 64
code_address text (Number n) = 0
code_address text (TocBase file addend) = 0
code_address text (WeakNone addend) = 0

module _ (files : List (List ℕ)) (span : ℕ) (text : List ℕ) where
  -- the address of a target, in data or in text, or the number that it is
  abbrev pub address_of : Target → ℕ
  address_of target = unwrap_or (target_address files span target) (code_address text target)

  -- the address of symbol j of a file; 0 where it stands for nothing
  unfoldable pub symbol_address : ℕ → ℕ → ℕ
  symbol_address file j = unwrap_or (option_map address_of (target_of files file j (pos 0))) 0

  -- where section i of a file lies, in text or in data
  abbrev pub section_place : ℕ → ℕ → ℕ
  section_place file i =
      let b = file_at files file in
      if is_text b i then slice_index text (text_index files file i) else section_address files span file b i

  -- P
  abbrev pub field_address : RecordId → ℕ
  field_address r = (section_place r.file r.section + (rela_of (file_at files r.file) r.table r.entry).offset) % 2 ^ 64

  -- S, for a record of a kind: where its slot lies, or its symbol; 0 where the kind doesn't look at a symbol
  abbrev pub source_address : RecordId → Kind → ℕ
  source_address r kind =
      let j = (rela_of (file_at files r.file) r.table r.entry).symbol in
      if is_slot_kind kind then unwrap_or (slot_address files span r.file j) 0
      else (if looks_at_symbol kind then symbol_address r.file j else 0)

  -- the value, over whole numbers: nothing wraps
  unfoldable pub record_value : RecordId → Kind → ℤ
  record_value r kind =
      let facts = rela_of (file_at files r.file) r.table r.entry in
      value (line_of kind).formula (source_address r kind) facts.addend (field_address r) (base_of files span r.file)

  -- a record whose field doesn't hold its value, with that value
  abbrev pub kind_overflow : RecordId → Option Kind → Option Refusal
  kind_overflow r None = None
  kind_overflow r (Some kind) =
      when (not (passes (line_of kind).check (record_value r kind))) (Overflow (site_of (file_at files r.file) r) (record_value r kind))

  abbrev pub record_overflow : RecordId → Option Refusal
  record_overflow r = kind_overflow r (kind_numbered (rela_of (file_at files r.file) r.table r.entry).kind)

  -- the same of a record whose field is in data
  unfoldable pub data_overflow_at : RecordId → Option Refusal
  data_overflow_at r = if is_data_sort (sort_of (file_at files r.file) r.section) then record_overflow r else None

  -- the first of data, in record order
  abbrev pub data_overflow : Option Refusal
  data_overflow = first_in data_overflow_at (all_items record_walk files)
