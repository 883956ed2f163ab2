-- What records in text have, where none is refused: a field in their section, and what the rewriting of TOC loads sees of them.
use Rattle.std.proofs.Common.{ℕ, ℤ, ◌≡◌, ◌≤◌, ◌+◌, Bool, true, List, length, Option, None, Some, ap, ◌∙◌, refl, arith, if◌then◌else◌}
use Rattle.elf64_records.specs.Records.{rela_of}
use Rattle.elf64_records.specs.Sections.{section_bytes}
use Rattle.object_set.specs.declared.places.RecordId.{RecordId}
use Rattle.object_set.specs.Files.{file_at}
use Rattle.object_set.specs.Refusals.{set_refusal}
use Rattle.object_set.specs.Walks.{IsRecord}
use Rattle.reloc_fields.specs.declared.kind.Kind.{Kind}
use Rattle.reloc_fields.specs.declared.kind.Kind.TheVariants.{Toc16Ha, Toc16LoDs, Toc16Ds}
use Rattle.reloc_fields.specs.Table.{line_of}
use Rattle.symbol_table.specs.Records.{records_refusal}
use Rattle.symbol_table.specs.laws.Sections.{record_about}
use Rattle.call_sites.specs.laws.TextSizes.{text_whole}
use Rattle.toc_rewrite.specs.declared.loads.TocRecord.{TocRecord}
use Rattle.toc_rewrite.specs.Records.{goes, word_at}
use Rattle.toc_rewrite.specs.Words.{only_loads}
use Rattle.toc_rewrite.proofs.SoundRecords.{sound_field}
use Rattle.image_writer.specs.Fields.{text_kind}
use Rattle.image_writer.specs.TocLoads.{named_distance, toc_record}
use Rattle.image_writer.proofs.Fielding.{text_field}

-- the field of a record in text lies in its section
pub text_lies : (files : List (List ℕ)) (r : RecordId) (k : Kind) → set_refusal files ≡ None → records_refusal files ≡ None →
    IsRecord files r → text_kind files r ≡ Some k →
    (rela_of (file_at files r.file) r.table r.entry).offset + (line_of k).width ≤ length (section_bytes (file_at files r.file) r.section)
text_lies files r k whole none here is =
    let field = text_field files r k is in
    let sound = sound_field files r none here k field.known field.fills in
    let about = record_about files r whole here in
    let stored = text_whole files r.file r.section whole here.file_in about.within field.text in
    omega (arith, stored, sound.within)

-- a kind that only loads goes somewhere
pub loads_go : (kind : Kind) (word : ℕ) → only_loads kind word ≡ true → goes kind ≡ true
loads_go = elim [
  | Toc16Ha ↦ λ word loads. refl
  | Toc16LoDs ↦ λ word loads. refl
  | Toc16Ds ↦ λ word loads. refl
  | _ ↦ λ word loads. cc
]

-- what is seen of a record, by its parts
module _ (files : List (List ℕ)) (span : ℕ) (text : List ℕ) (slots : List RecordId) (r : RecordId) (kind : Kind) where
  seen : ℕ → Option ℤ → TocRecord
  seen word slot = record { kind = kind; word = word; slot = slot }

  slot_made : (word : ℕ) (slot named : Option ℤ) (b : Bool) → b ≡ only_loads kind word → slot ≡ (if b then named else None) →
      slot ≡ (if only_loads kind word then named else None)
  slot_made word slot named b is made = made ∙ ap (λ (t : Bool). if t then named else None) is

  pub record_made : (word : ℕ) (slot : Option ℤ) (b : Bool) → word ≡ word_at files r → b ≡ only_loads kind word →
      slot ≡ (if b then named_distance files span text slots r else None) →
      record { kind = kind; word = word; slot = slot } ≡ toc_record files span text slots r kind
  unfolding toc_record seen
  record_made word slot b same is made =
      ap (seen word) (slot_made word slot (named_distance files span text slots r) b is made)
      ∙ ap (λ (w : ℕ). seen w (if only_loads kind w then named_distance files span text slots r else None)) same
