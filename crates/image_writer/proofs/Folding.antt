-- Records of TOC loads, as the rewriting sees them: what is so of one, and that its word may be rewritten.
use Rattle.std.proofs.Common.{ℕ, ℤ, pos, ◌≡◌, ◌<◌, Bool, true, false, List, length, Option, None, Some, ap, sym, ◌∙◌, subst, refl, if◌then◌else◌}
use Rattle.std.specs.Prelude.{◌+ℤ◌}
use Rattle.std.specs.Option.{option_map}
use Rattle.ppc_bytes.specs.Bytes.{InSigned}
use Rattle.object_set.specs.declared.places.RecordId.{RecordId}
use Rattle.object_set.specs.Refusals.{set_refusal}
use Rattle.object_set.specs.Walks.{IsRecord}
use Rattle.reloc_fields.specs.declared.kind.Kind.{Kind}
use Rattle.reloc_fields.specs.declared.kind.Kind.TheVariants.{Toc16LoDs, Toc16Ds}
use Rattle.reloc_fields.specs.Table.{line_of, Passes}
use Rattle.symbol_table.specs.declared.target.Target.{Target}
use Rattle.symbol_table.specs.Records.{records_refusal}
use Rattle.symbol_table.specs.Text.{text_sections}
use Rattle.toc_groups.specs.Data.{base_of}
use Rattle.toc_groups.specs.Parts.{Part, Takes}
use Rattle.toc_groups.specs.Plans.{LaidData, IsPlan}
use Rattle.toc_rewrite.specs.declared.loads.TocRecord.{TocRecord}
use Rattle.toc_rewrite.specs.Laid.{base_of as laid_base}
use Rattle.toc_rewrite.specs.Folds.{is_orderly, reaches, slot_records}
use Rattle.toc_rewrite.specs.Records.{facts_of, kind_of, word_at, record_target, record_number}
use Rattle.toc_rewrite.specs.Uses.{number_of, folds_slot, is_folded_load, rewrites_word, is_rewritten}
use Rattle.toc_rewrite.specs.Words.{only_loads, IsRewritten}
use Rattle.toc_rewrite.specs.laws.Rewritten.{IsGiven, rewritten_may}
use Rattle.toc_rewrite.specs.laws.Slots.{foldable_parts}
use Rattle.toc_rewrite.specs.Folds.{slot_at}
use Rattle.image_writer.specs.Rewriting.{laid_by}
use Rattle.image_writer.specs.TocLoads.{slot_distance, named_distance, toc_record}
use Rattle.image_writer.specs.inside.Ready.{AreTextAddresses}
use Rattle.image_writer.proofs.Slots.{held_reached, word_suits, target_there, target_told, target_offset}
use Rattle.image_writer.proofs.Naming.{IsFoldedIn, found_is}

-- a slot is told where a word loads it, and is one that is named
told_by : (b : Bool) (o : Option ℤ) (distance : ℤ) → (if b then o else None) ≡ Some distance → (b ≡ true) × (o ≡ Some distance)
told_by true o distance is = (refl, is)
told_by false o distance is = cc

mapped_by : (f : RecordId → ℤ) (o : Option RecordId) (distance : ℤ) → option_map f o ≡ Some distance →
    (s : RecordId) × (o ≡ Some s) × (f s ≡ distance)
mapped_by f None distance is = cc
mapped_by f (Some s) distance is = (s, refl, cc)

-- a load that is left out has a slot
folded_rewritten : (kind : Kind) (word : ℕ) (slot : Option ℤ) (orderly : Bool) → folds_slot kind word slot ≡ true →
    ((distance : ℤ) → slot ≡ Some distance → orderly ≡ true) → rewrites_word kind orderly (folds_slot kind word slot) ≡ true
folded_rewritten kind word None orderly folded each = cc
folded_rewritten kind word (Some distance) orderly folded each =
    elim kind as (λ k. folds_slot k word (Some distance) ≡ true → rewrites_word k orderly (folds_slot k word (Some distance)) ≡ true) [
      | Toc16LoDs ↦ λ is. each distance refl
      | Toc16Ds ↦ λ is. is
      | _ ↦ λ is. cc
    ] folded

module _ (files : List (List ℕ)) (span : ℕ) (plan : LaidData) (is : IsPlan files span plan) (whole : set_refusal files ≡ None)
    (none : records_refusal files ≡ None) (apart : (a : ℕ) (p q : Part) → Takes files span p a → Takes files span q a → p ≡ q)
    (text : List ℕ) (addresses : AreTextAddresses text) (texts : length text ≡ length (text_sections files))
    (r : RecordId) (kind : Kind) (here : IsRecord files r) where
  -- the foldable slot of a record that has one
  record HasSlot (distance : ℤ) : Type 0 where
    loads : only_loads kind (word_at files r) ≡ true
    slot : RecordId
    folded : IsFoldedIn files span plan is whole none apart r.file slot
    distance_is : slot_distance files span text r.file slot ≡ distance

  slot_of : (distance : ℤ) → (toc_record files span text (slot_records (laid_by files span)) r kind).slot ≡ Some distance → HasSlot distance
  unfolding toc_record
  slot_of distance told =
      let laid = laid_by files span in
      let both = told_by (only_loads kind (word_at files r)) (named_distance files span text (slot_records laid) r) distance told in
      let made = mapped_by (slot_distance files span text r.file)
      (slot_at laid (slot_records laid) r.file (record_number laid r)) distance both.1 in
      record {
        loads = both.0;
        slot = made.0;
        folded = found_is files span plan is whole none apart made.0 r.file (record_number laid r) made.1;
        distance_is = made.2;
      }

  target_case : (o : Option Target) (base : ℕ) → reaches (laid_by files span) base o ≡ true → (target : Target) × (o ≡ Some target)
  target_case None base reach = cc
  target_case (Some target) base reach = (target, refl)

  -- its file is orderly
  slot_orderly : (distance : ℤ) → HasSlot distance → is_orderly files r.file ≡ true
  slot_orderly distance has =
      ap (is_orderly files) (sym has.folded.file_is) ∙ (foldable_parts (laid_by files span) has.slot has.folded.folds).orderly

  -- and two halves reach what it holds
  slot_reached : (distance : ℤ) → base_of files span r.file < 0x60000000 → HasSlot distance → InSigned 32 (distance +ℤ pos 0x8000)
  slot_reached distance low has =
      let laid = laid_by files span in
      let slot = has.slot in
      let reach : reaches laid (laid_base laid r.file) (record_target files slot) ≡ true =
      ap (λ (f : ℕ). reaches laid (laid_base laid f) (record_target files slot)) (sym has.folded.file_is)
      ∙ (foldable_parts laid slot has.folded.folds).reach in
      let goes = target_case (record_target files slot) (laid_base laid r.file) reach in
      let there = target_there files slot goes.0 whole has.folded.within goes.1 in
      subst (λ (x : ℤ). InSigned 32 (x +ℤ pos 0x8000)) has.distance_is
      (held_reached files span plan is r.file text (record_target files slot) goes.0 here.file_in addresses texts low there
      (target_offset files slot.file (facts_of files slot).symbol (facts_of files slot).addend goes.0
      (target_told files slot goes.0 goes.1))
      goes.1 reach)

  -- what is so of a record, where its field holds its value or its load is left out
  pub is_given : (own : ℤ) → base_of files span r.file < 0x60000000 → kind_of files r ≡ Some kind →
      (let load = toc_record files span text (slot_records (laid_by files span)) r kind in
      (is_folded_load load ≡ false → Passes (line_of kind).check own) → IsGiven load.kind load.word load.slot own (is_orderly files r.file))
  unfolding toc_record
  is_given own low known checked = record {
    suits_it = λ orderly. word_suits files r kind here known orderly;
    loads = λ distance told. (slot_of distance told).loads;
    reach = λ distance told. slot_reached distance low (slot_of distance told);
    checked = checked;
  }

  -- so its word may be rewritten
  pub may_rewrite : (load : TocRecord) (own : ℤ) → load ≡ toc_record files span text (slot_records (laid_by files span)) r kind →
      base_of files span r.file < 0x60000000 → kind_of files r ≡ Some kind →
      (is_folded_load load ≡ false → Passes (line_of kind).check own) → is_rewritten load (is_orderly files r.file) ≡ true →
      IsRewritten load.kind load.word (number_of load own) (is_folded_load load)
  may_rewrite load own same low known checked rewritten =
      let told = toc_record files span text (slot_records (laid_by files span)) r kind in
      let given = is_given own low known
      (subst (λ (l : TocRecord). is_folded_load l ≡ false → Passes (line_of kind).check own) same checked) in
      subst (λ (l : TocRecord). IsRewritten l.kind l.word (number_of l own) (is_folded_load l)) (sym same)
      (rewritten_may told own (is_orderly files r.file) given
      (ap (λ (l : TocRecord). is_rewritten l (is_orderly files r.file)) (sym same) ∙ rewritten))

  folded_case : (load : TocRecord) → ((distance : ℤ) → load.slot ≡ Some distance → is_orderly files r.file ≡ true) → (folded : Bool) →
      is_folded_load load ≡ folded → is_rewritten load (is_orderly files r.file) ≡ false → folded ≡ false
  folded_case load each false folded none = refl
  folded_case load each true folded none =
      let does = folded_rewritten load.kind load.word load.slot (is_orderly files r.file) folded each in
      cc

  -- and a word that isn't is no load that is left out
  pub not_folded : (load : TocRecord) → load ≡ toc_record files span text (slot_records (laid_by files span)) r kind →
      is_rewritten load (is_orderly files r.file) ≡ false → is_folded_load load ≡ false
  not_folded load same none =
      folded_case load (λ distance told. slot_orderly distance (slot_of distance (ap (λ (l : TocRecord). l.slot) (sym same) ∙ told)))
      (is_folded_load load) refl none
