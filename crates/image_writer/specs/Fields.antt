-- Fields of relocation records in a text, with their values, where nothing is rewritten (ELFv2 ABI, "Relocation Types").
use Rattle.std.specs.Prelude.{ℕ, ◌-◌, List, [], ◌∷◌, ◌||◌, ◌==◌, Option, None, Some, is_some, flat_map, if◌then◌else◌}
use Rattle.elf64_records.specs.First.{first_in}
use Rattle.elf64_records.specs.Records.{rela_of}
use Rattle.object_set.specs.declared.places.RecordId.{RecordId}
use Rattle.object_set.specs.declared.refusal.Refusal.{Refusal}
use Rattle.object_set.specs.Files.{file_at}
use Rattle.object_set.specs.Sections.{is_text}
use Rattle.object_set.specs.Walks.{all_items, record_walk}
use Rattle.reloc_fields.specs.declared.kind.Kind.{Kind}
use Rattle.reloc_fields.specs.Table.{line_of}
use Rattle.symbol_table.specs.Fields.{kind_numbered}
use Rattle.call_sites.specs.Sites.{linkage_of}
use Rattle.toc_groups.specs.Values.{field_address, kind_overflow}
use Rattle.toc_groups.specs.Contents.{field_bytes}
use Rattle.placed_bytes.specs.Patches.{Patch}

-- a kind that fills bytes, and not a call's branch
abbrev pub plain_kind : Option Kind → Option Kind
plain_kind None = None
plain_kind (Some kind) = if (line_of kind).width == 0 || is_some (linkage_of kind) then None else Some kind

-- the kind of a record whose field is in text and is no call's branch
unfoldable pub text_kind : List (List ℕ) → RecordId → Option Kind
text_kind files r =
    let b = file_at files r.file in
    if is_text b r.section then plain_kind (kind_numbered (rela_of b r.table r.entry).kind) else None

module _ (files : List (List ℕ)) (span : ℕ) (text : List ℕ) where
  -- a field with the value of its record, in a text that starts somewhere
  abbrev pub field_by : ℕ → RecordId → Option Kind → List Patch
  field_by start r None = []
  field_by start r (Some kind) =
      record { at = field_address files span text r - start; bytes = field_bytes files span text r kind } ∷ []

  abbrev pub field_patch : ℕ → RecordId → List Patch
  field_patch start r = field_by start r (text_kind files r)

  -- those of all records
  abbrev pub field_patches : ℕ → List Patch
  field_patches start = flat_map (field_patch start) (all_items record_walk files)

  -- a record in text whose field doesn't hold its value
  unfoldable pub field_overflow_at : RecordId → Option Refusal
  field_overflow_at r = kind_overflow files span text r (text_kind files r)

  -- the first in record order
  abbrev pub field_overflow : Option Refusal
  field_overflow = first_in field_overflow_at (all_items record_walk files)
