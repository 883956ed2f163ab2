-- Which slots of the table of contents can be left out of a load, so that the code makes the address that the slot holds (ELFv2 ABI,
-- 3.3 "TOC"): foldable slots of orderly files.
use Rattle.std.specs.Prelude.{ℕ, ℤ, pos, neg_ℤ, ◌+◌, ◌%◌, ◌^◌, ◌-ℤ◌, ◌+ℤ◌, int_lt, Bool, true, false, not, List, ◌&&◌, ◌==◌, nat_le, nat_lt, filter, Option, None, Some}
use Rattle.std.specs.Int.{cast_signed, w64}
use Rattle.std.specs.List.{list_any}
use Rattle.elf64_records.specs.First.{when, first_in}
use Rattle.object_set.specs.declared.places.RecordId.{RecordId}
use Rattle.object_set.specs.declared.sort.Sort.{Sort}
use Rattle.object_set.specs.declared.sort.Sort.TheVariants.{Text, Zeroed, Toc, Writable, ReadOnly, Dropped}
use Rattle.object_set.specs.Files.{file_at}
use Rattle.object_set.specs.Sections.{sort_of}
use Rattle.reloc_fields.specs.declared.kind.Kind.{Kind}
use Rattle.reloc_fields.specs.declared.kind.Kind.TheVariants.{Addr64}
use Rattle.symbol_table.specs.declared.target.Target.{Target}
use Rattle.symbol_table.specs.declared.target.Target.TheVariants as target
use Rattle.symbol_table.specs.Fields.{field_of, records_of, meets}
use Rattle.toc_rewrite.specs.declared.laid.TheConstants.{CODE_REACH}
use Rattle.toc_rewrite.specs.Laid.{LaidFiles, base_of, section_address, number_of}
use Rattle.toc_rewrite.specs.Records.{facts_of, kind_of, word_at, record_target, record_number, is_of_prologue, all_records}
use Rattle.toc_rewrite.specs.Words.{suits, only_loads}

-- a record stands on a word on which an orderly file has none of its kind
abbrev pub is_unsuited : Option Kind → ℕ → Bool
is_unsuited None word = false
is_unsuited (Some kind) word = not (suits kind word)

-- none of a file's records does: the file is orderly
abbrev pub is_orderly : List (List ℕ) → ℕ → Bool
is_orderly files file =
    not (list_any (λ r. is_unsuited (kind_of files r) (word_at files r)) (records_of file (file_at files file)))

-- two records of one file are the same
abbrev pub is_same_record : RecordId → RecordId → Bool
is_same_record q r = q.table == r.table && q.entry == r.entry

-- a section is a part of the table of contents
abbrev pub is_toc_sort : Sort → Bool
is_toc_sort Toc = true
is_toc_sort Text = false
is_toc_sort Zeroed = false
is_toc_sort Writable = false
is_toc_sort ReadOnly = false
is_toc_sort Dropped = false

-- a relocation fills eight bytes with an address
abbrev pub is_address : Option Kind → Bool
is_address None = false
is_address (Some Addr64) = true
is_address (Some other) = false

-- a record fills a slot: eight bytes at a multiple of 8 of a part of the table of contents
abbrev pub fills_slot : List (List ℕ) → RecordId → Bool
fills_slot files r =
    is_address (kind_of files r) && is_toc_sort (sort_of (file_at files r.file) r.section) && (facts_of files r).offset % 8 == 0

-- and no other record's field has bytes of it
abbrev pub fills_alone : List (List ℕ) → RecordId → Bool
fills_alone files r =
    let b = file_at files r.file in
    not (list_any (λ q. not (is_same_record q r) && meets r.section (facts_of files r).offset 8 (field_of b q)) (records_of r.file b))

-- the address of the slot that a record fills
abbrev pub slot_address : LaidFiles → RecordId → ℕ
slot_address laid r = section_address laid r.file r.section + (facts_of laid.files r).offset

-- a number at most so far from a base that two halves reach it
abbrev pub reaches_number : ℕ → Option ℕ → Bool
reaches_number base None = false
reaches_number base (Some n) =
    let x = (pos n -ℤ pos base) +ℤ pos 0x8000 in
    not (int_lt x (neg_ℤ (pos (2 ^ 31)))) && int_lt x (pos (2 ^ 31))

-- an offset, read as signed, that no layout of text puts out of reach
abbrev pub reaches_offset : ℤ → Bool
reaches_offset offset = not (int_lt offset (neg_ℤ CODE_REACH)) && not (int_lt CODE_REACH offset)

-- two halves reach a target from a TOC base: a number by itself, a place in text by its offset, so that it doesn't depend on where text
-- lies
abbrev pub reaches : LaidFiles → ℕ → Option Target → Bool
reaches laid base None = false
reaches laid base (Some (target.Code section offset)) = reaches_offset (cast_signed w64 offset)
reaches laid base (Some other) = reaches_number base (number_of laid other)

-- a number is one of eight bytes from an address on
abbrev pub lies_in : ℕ → Option ℕ → Bool
lies_in address None = false
lies_in address (Some n) = nat_le address n && nat_lt n (address + 8)

abbrev pub is_number : ℕ → Option ℕ → Bool
is_number address None = false
is_number address (Some n) = n == address

abbrev pub loads_only : Option Kind → ℕ → Bool
loads_only None word = false
loads_only (Some kind) word = only_loads kind word

-- a record of a slot's own file loads the slot at an address, and does nothing else with it
abbrev pub only_loads_slot : LaidFiles → ℕ → ℕ → RecordId → Bool
only_loads_slot laid file address r =
    r.file == file && is_number address (record_number laid r) && loads_only (kind_of laid.files r) (word_at laid.files r)

-- a record, other than the two of a recognised prologue, goes into the eight bytes of a file's slot and doesn't only load it: the slot
-- has to stay
abbrev pub needs_slot : LaidFiles → ℕ → ℕ → RecordId → Bool
needs_slot laid file address r =
    not (is_of_prologue laid.files r) && lies_in address (record_number laid r) && not (only_loads_slot laid file address r)

-- the slot that a record fills is foldable
abbrev pub fills_foldable : LaidFiles → RecordId → Bool
fills_foldable laid r =
    fills_slot laid.files r && fills_alone laid.files r && is_orderly laid.files r.file
    && reaches laid (base_of laid r.file) (record_target laid.files r)
    && not (list_any (needs_slot laid r.file (slot_address laid r)) (all_records laid.files))

-- the foldable slots, each told by the one record that fills it, in record order
abbrev pub slot_records : LaidFiles → List RecordId
slot_records laid = filter (fills_foldable laid) (all_records laid.files)

-- the one of these slots of a file that begins at a number
abbrev pub slot_at : LaidFiles → List RecordId → ℕ → Option ℕ → Option RecordId
slot_at laid slots file None = None
slot_at laid slots file (Some number) = first_in (λ s. when (s.file == file && slot_address laid s == number) s) slots

-- a record fills the slot at an offset of a section of a file
abbrev pub fills_at : List (List ℕ) → ℕ → ℕ → ℕ → RecordId → Bool
fills_at files file section offset r = r.file == file && r.section == section && (facts_of files r).offset == offset

-- the slot there is foldable
abbrev pub is_foldable : LaidFiles → ℕ → ℕ → ℕ → Bool
is_foldable laid file section offset = list_any (fills_at laid.files file section offset) (slot_records laid)
