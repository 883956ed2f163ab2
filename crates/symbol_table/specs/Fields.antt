-- The fields that relocation records fill (ELF64, "Relocation"; ELFv2 ABI, "Relocation Fields"). A field has 0, 4 or 8 bytes by the kind of
-- relocation; a number that is no kind's has none.
use Rattle.std.specs.Prelude.{ℕ, ◌+◌, Bool, List, [], ◌∷◌, ◌&&◌, ◌||◌, ◌==◌, nat_lt, max, min, map, filter, Option, None, Some}
use Rattle.std.specs.List.{list_any, find}
use Rattle.elf64_records.specs.FileHeader.{e_shnum}
use Rattle.elf64_records.specs.Records.{rela_of}
use Rattle.object_set.specs.declared.places.RecordId.{RecordId}
use Rattle.object_set.specs.Walks.{items_in, record_walk}
use Rattle.reloc_fields.specs.declared.kind.Kind.{Kind}
use Rattle.reloc_fields.specs.declared.kind.Kind.TheVariants as kind
use Rattle.reloc_fields.specs.Table.{line_of}
use Rattle.symbol_table.specs.declared.fields.RecordField.{RecordField}

-- the kinds of relocation
abbrev pub all_kinds : List Kind
all_kinds =
    kind.None ∷ kind.Addr32 ∷ kind.Addr16 ∷ kind.Addr16Lo ∷ kind.Addr16Hi ∷ kind.Addr16Ha ∷ kind.Rel24 ∷ kind.Rel14 ∷ kind.Rel32
    ∷ kind.Addr64 ∷ kind.Rel64 ∷ kind.Toc16 ∷ kind.Toc16Lo ∷ kind.Toc16Hi ∷ kind.Toc16Ha ∷ kind.Toc ∷ kind.Addr16Ds ∷ kind.Addr16LoDs
    ∷ kind.Toc16Ds ∷ kind.Toc16LoDs ∷ kind.Tocsave ∷ kind.Rel24Notoc ∷ kind.PcrelOpt ∷ kind.Pcrel34 ∷ kind.GotPcrel34 ∷ kind.Rel16Lo
    ∷ kind.Rel16Ha ∷ []

-- the kind that has a number
unfoldable pub kind_numbered : ℕ → Option Kind
kind_numbered number = find (λ kind. (line_of kind).number == number) all_kinds

-- how many bytes the field of a relocation has
abbrev pub width_in : Option Kind → ℕ
width_in None = 0
width_in (Some kind) = (line_of kind).width

-- the field of a record of a file
abbrev pub field_of : List ℕ → RecordId → RecordField
field_of b r =
    let facts = rela_of b r.table r.entry in
    record { id = r; start = facts.offset; width = width_in (kind_numbered facts.kind) }

-- the records of a file, in record order
abbrev pub records_of : ℕ → List ℕ → List RecordId
records_of file b = items_in record_walk file b (e_shnum b)

-- their fields
abbrev pub fields_of : ℕ → List ℕ → List RecordField
fields_of file b = map (field_of b) (records_of file b)

-- a field has bytes among so many of a section from an offset on
abbrev pub meets : ℕ → ℕ → ℕ → RecordField → Bool
meets section from count field =
    field.id.section == section && nat_lt (max field.start from) (min (field.start + field.width) (from + count))

-- the fields of a file that have bytes among so many of a section from an offset on
abbrev pub fields_meeting : ℕ → List ℕ → ℕ → ℕ → ℕ → List RecordField
fields_meeting file b section from count = filter (meets section from count) (fields_of file b)

-- of two records of a file, the one comes before the other in record order
abbrev pub comes_before : RecordId → RecordId → Bool
comes_before q r = nat_lt q.table r.table || (q.table == r.table && nat_lt q.entry r.entry)

-- the field of a record has bytes that are also an earlier record's
abbrev pub overlaps_earlier : ℕ → List ℕ → RecordId → Bool
overlaps_earlier file b r =
    let field = field_of b r in
    list_any (λ f. comes_before f.id r) (fields_meeting file b r.section field.start field.width)
