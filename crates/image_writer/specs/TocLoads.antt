-- Words that load from the table of contents, as a link rewrites them (ELFv2 ABI, 3.3 "TOC" and "Relocation Notations").
use Rattle.std.specs.Prelude.{ℕ, ℤ, pos, ◌-◌, ◌-ℤ◌, List, [], ◌∷◌, Option, None, Some, if◌then◌else◌}
use Rattle.std.specs.Option.{option_map}
use Rattle.object_set.specs.declared.places.RecordId.{RecordId}
use Rattle.reloc_fields.specs.declared.kind.Kind.{Kind}
use Rattle.symbol_table.specs.declared.target.Target.{Target}
use Rattle.toc_groups.specs.Data.{base_of}
use Rattle.toc_groups.specs.Values.{address_of, field_address, record_value}
use Rattle.toc_rewrite.specs.declared.loads.TocRecord.{TocRecord}
use Rattle.toc_rewrite.specs.Records.{record_target, record_number, word_at}
use Rattle.toc_rewrite.specs.Uses.{number_of, is_folded_load}
use Rattle.toc_rewrite.specs.Words.{only_loads, folded_word}
use Rattle.placed_bytes.specs.Patches.{Patch, number_patch}
use Rattle.toc_rewrite.specs.Folds.{slot_at}
use Rattle.image_writer.specs.Rewriting.{laid_by}

module _ (files : List (List ℕ)) (span : ℕ) (text : List ℕ) where
  -- what a slot holds: the address to which the record goes that fills it
  abbrev pub held_by : Option Target → ℕ
  held_by None = 0
  held_by (Some target) = address_of files span text target

  abbrev pub slot_value : RecordId → ℕ
  slot_value slot = held_by (record_target files slot)

  -- how far that lies from the TOC base of a file
  abbrev pub slot_distance : ℕ → RecordId → ℤ
  slot_distance file slot = pos (slot_value slot) -ℤ pos (base_of files span file)

  -- for the one of these slots that a record names
  abbrev pub named_distance : List RecordId → RecordId → Option ℤ
  named_distance slots r =
      let laid = laid_by files span in
      option_map (slot_distance r.file) (slot_at laid slots r.file (record_number laid r))

  -- a record as the rewriting of TOC loads sees it, where these slots are left out
  unfoldable pub toc_record : List RecordId → RecordId → Kind → TocRecord
  toc_record slots r kind = record {
    kind = kind;
    word = word_at files r;
    slot = if only_loads kind (word_at files r) then named_distance slots r else None;
  }

  -- its word, rewritten, in a text that starts somewhere
  abbrev pub folded_patch : ℕ → RecordId → TocRecord → List Patch
  folded_patch start r load =
      number_patch 4 (field_address files span text r - start)
      (folded_word load.kind load.word (number_of load (record_value files span text r load.kind)) (is_folded_load load))
      ∷ []
