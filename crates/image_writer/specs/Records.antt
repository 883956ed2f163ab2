-- What relocation records put into a text (ELFv2 ABI, "Relocation Types"): a field with its value, or words that are rewritten.
use Rattle.std.specs.Prelude.{ℕ, ◌-◌, List, [], Option, None, Some, flat_map, if◌then◌else◌}
use Rattle.elf64_records.specs.First.{first_in}
use Rattle.object_set.specs.declared.places.RecordId.{RecordId}
use Rattle.object_set.specs.declared.refusal.Refusal.{Refusal}
use Rattle.object_set.specs.Walks.{all_items, record_walk}
use Rattle.reloc_fields.specs.declared.kind.Kind.{Kind}
use Rattle.toc_groups.specs.Values.{field_address, kind_overflow}
use Rattle.toc_rewrite.specs.Uses.{is_folded_load, is_rewritten}
use Rattle.placed_bytes.specs.Patches.{Patch}
use Rattle.image_writer.specs.declared.got_loads.LoadWords.{LoadWords}
use Rattle.image_writer.specs.Fields.{text_kind, field_by}
use Rattle.image_writer.specs.Rewriting.{Rewriting}
use Rattle.image_writer.specs.TocLoads.{toc_record, folded_patch}
use Rattle.image_writer.specs.GotLoads.{rewritten_load, load_patches}

module _ (files : List (List ℕ)) (span : ℕ) (text : List ℕ) (w : Rewriting) where
  -- a load of an address that is rewritten, or a field, in a text that starts somewhere
  abbrev pub load_or_field : ℕ → RecordId → Kind → Option LoadWords → List Patch
  load_or_field start r kind None = field_by files span text start r (Some kind)
  load_or_field start r kind (Some load) = load_patches (field_address files span text r - start) load

  -- what a record of a kind puts: by the first of these that fits
  abbrev pub record_by : ℕ → RecordId → Option Kind → List Patch
  record_by start r None = []
  record_by start r (Some kind) =
      let load = toc_record files span text w.slots r kind in
      if is_rewritten load (w.orderly r.file) then folded_patch files span text start r load
      else load_or_field start r kind (rewritten_load files span text w r kind)

  abbrev pub record_patch : ℕ → RecordId → List Patch
  record_patch start r = record_by start r (text_kind files r)

  -- and what all records do
  abbrev pub record_patches : ℕ → List Patch
  record_patches start = flat_map (record_patch start) (all_items record_walk files)

  -- a record in text whose field doesn't hold its value; a load that is left out isn't checked
  abbrev pub overflow_by : RecordId → Option Kind → Option Refusal
  overflow_by r None = None
  overflow_by r (Some kind) =
      if is_folded_load (toc_record files span text w.slots r kind) then None else kind_overflow files span text r (Some kind)

  unfoldable pub text_overflow_at : RecordId → Option Refusal
  text_overflow_at r = overflow_by r (text_kind files r)

  -- the first in record order
  abbrev pub text_overflow : Option Refusal
  text_overflow = first_in text_overflow_at (all_items record_walk files)
