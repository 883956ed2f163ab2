use Rattle.std.proofs.Common.{ℕ, ◌≡◌, ◌<◌, Bool, true, false, List, length, map, get_or, Some, slice_get, ap, sym, ◌∙◌, subst, arith, to_z, of_z, if◌then◌else◌}
use Rattle.std.specs.Int.{w128}
use Rattle.std.specs.List.{range_with_len}
use Rattle.std.proofs.lemmas.Int.{ints}
use Rattle.std.proofs.lemmas.List.FromFn.{get_or-map-range_with_len, length-map-range_with_len}
use Rattle.std.proofs.lemmas.Option.{get_or_from_slice_get}
use Rattle.object_set.specs.declared.places.RecordId.{RecordId}
use Rattle.object_set.specs.Refusals.{set_refusal}
use Rattle.reloc_fields.specs.Table.{line_of, Passes}
use Rattle.toc_groups.proofs.Reading.{base_is}
use Rattle.toc_rewrite.specs.declared.loads.TocRecord.{TocRecord}
use Rattle.toc_rewrite.specs.Folds.{is_orderly, slot_records}
use Rattle.toc_rewrite.specs.Uses.{is_rewritten}
use Rattle.pcrel_rewrite.specs.declared.text_pairs.TextPair.{TextPair}
use Rattle.placed_bytes.specs.Patches.{all_patched}
use Rattle.image_writer.specs.GotLoads.{rewritten_load}
use Rattle.image_writer.specs.Records.{load_or_field, record_by}
use Rattle.image_writer.specs.Rewriting.{laid_by, rewriting_of}
use Rattle.image_writer.specs.TocLoads.{toc_record, folded_patch}
use Rattle.image_writer.proofs.Fielding.{text_field}
use Rattle.image_writer.proofs.Folding.{may_rewrite, not_folded}
use Rattle.image_writer.proofs.records.put_checked.Goals as goal

-- there is an answer for each file
pub orderly-requires : goal.orderly-requires
orderly-requires c =
    let files = c.args.res.now.files in
    let count = ap (λ (l : List Bool). length l) c.requires.folds.orderly ∙ length-map-range_with_len (is_orderly files) 0 (length files) in
    omega (arith, count, c.requires.record.file_in)

-- whether the file is orderly
orderly_is : (files : List (List ℕ)) (file : ℕ) (orderly : List Bool) (o : Bool) → file < length files →
    orderly ≡ map (is_orderly files) (range_with_len 0 (length files)) → slice_get orderly file ≡ Some o →
    o ≡ is_orderly files file
orderly_is files file orderly o within are read =
    sym (get_or_from_slice_get orderly file o false read) ∙ ap (λ (l : List Bool). get_or l file false) are
    ∙ get_or-map-range_with_len (is_orderly files) 0 (length files) file file false within (omega arith)

-- what is seen of the record chooses what is put
module _ (files : List (List ℕ)) (span : ℕ) (text : List ℕ) (pairs : List TextPair) (start : ℕ) (r : RecordId) (load : TocRecord) (o : Bool)
    (same : load ≡ toc_record files span text (slot_records (laid_by files span)) r load.kind) (orderly : o ≡ is_orderly files r.file) where
  told : (t : Bool) → is_rewritten load o ≡ t →
      is_rewritten (toc_record files span text (slot_records (laid_by files span)) r load.kind) (is_orderly files r.file) ≡ t
  told t is =
      ap (λ (l : TocRecord). is_rewritten l (is_orderly files r.file)) (sym same) ∙ ap (is_rewritten load) (sym orderly) ∙ is

  choice : (t : Bool) → is_rewritten load o ≡ t → record_by files span text (rewriting_of files span pairs) start r (Some load.kind)
      ≡ (if t then folded_patch files span text start r (toc_record files span text (slot_records (laid_by files span)) r load.kind)
      else load_or_field files span text (rewriting_of files span pairs) start r load.kind
      (rewritten_load files span text (rewriting_of files span pairs) r load.kind))
  choice t is =
      ap (λ (b : Bool). if b then folded_patch files span text start r
      (toc_record files span text (slot_records (laid_by files span)) r load.kind)
      else load_or_field files span text (rewriting_of files span pairs) start r load.kind
      (rewritten_load files span text (rewriting_of files span pairs) r load.kind)) (told t is)

  folded : is_rewritten load o ≡ true →
      folded_patch files span text start r load ≡ record_by files span text (rewriting_of files span pairs) start r (Some load.kind)
  folded is = ap (folded_patch files span text start r) same ∙ sym (choice true is)

-- its word may be rewritten
pub put_folded-requires-clause-rewritten : goal.put_folded-requires-clause-rewritten
put_folded-requires-clause-rewritten c =
    let files = c.args.res.now.files in
    let span = c.args.plan.now.span in
    let id = c.args.id in
    let load = c.args.load.now in
    let whole = ap set_refusal (sym c.set.ensures) ∙ c.file_count-files.ensures.whole in
    let base = base_is files span c.args.plan.now c.requires.of_files.plan_is id.file c.requires.record.file_in in
    let low = c.requires.bases id.file in
    let kept : to_z w128 (of_z w128 c.args.value) ≡ c.args.value = omega (arith, ints, c.ranges.value.sfits) in
    let orderly = orderly_is files id.file c.args.folds.now.orderly c.orderly.result c.requires.record.file_in c.requires.folds.orderly
    c.orderly.ensures in
    may_rewrite files span c.args.plan.now c.requires.of_files.plan_is whole c.requires.of_files.records
    (λ a p q one other. c.parts_are_apart.ensures files span a p q whole one other) c.args.places.now.sections c.requires.addresses
    c.requires.of_files.texts id load.kind c.requires.record load (to_z w128 (of_z w128 c.args.value)) c.requires.load
    (omega (arith, base, low)) (text_field files id load.kind c.requires.kind).known
    (λ none. subst (Passes (line_of load.kind).check) (sym kept) (c.requires.checked none))
    (ap (is_rewritten load) (sym orderly) ∙ sym c.is_rewritten.ensures ∙ c.if-is_rewritten.true)

-- a field that stays holds its value
pub put_load_or_field-requires-clause-holds : goal.put_load_or_field-requires-clause-holds
put_load_or_field-requires-clause-holds c =
    let files = c.args.res.now.files in
    let span = c.args.plan.now.span in
    let id = c.args.id in
    let load = c.args.load.now in
    let whole = ap set_refusal (sym c.set.ensures) ∙ c.file_count-files.ensures.whole in
    let kept : to_z w128 (of_z w128 c.args.value) ≡ c.args.value = omega (arith, ints, c.ranges.value.sfits) in
    let orderly = orderly_is files id.file c.args.folds.now.orderly c.orderly.result c.requires.record.file_in c.requires.folds.orderly
    c.orderly.ensures in
    let none = not_folded files span c.args.plan.now c.requires.of_files.plan_is whole c.requires.of_files.records
    (λ a p q one other. c.parts_are_apart.ensures files span a p q whole one other) c.args.places.now.sections c.requires.addresses
    c.requires.of_files.texts id load.kind c.requires.record load c.requires.load
    (ap (is_rewritten load) (sym orderly) ∙ sym c.is_rewritten.ensures ∙ c.if-is_rewritten.false) in
    subst (Passes (line_of load.kind).check) (sym kept) (c.requires.checked none)

-- the word is put
pub returns-then-is_rewritten-clause-put : goal.returns-then-is_rewritten-clause-put
returns-then-is_rewritten-clause-put c =
    let files = c.args.res.now.files in
    let id = c.args.id in
    let orderly = orderly_is files id.file c.args.folds.now.orderly c.orderly.result c.requires.record.file_in c.requires.folds.orderly
    c.orderly.ensures in
    c.put_folded.ensures.put
    ∙ ap (all_patched c.args.text.now)
    (folded files c.args.plan.now.span c.args.places.now.sections c.args.pairs.now c.args.plan.now.text_start id c.args.load.now
    c.orderly.result c.requires.load orderly (sym c.is_rewritten.ensures ∙ c.if-is_rewritten.true))

-- or the field
pub returns-else-is_rewritten-clause-put : goal.returns-else-is_rewritten-clause-put
returns-else-is_rewritten-clause-put c =
    let files = c.args.res.now.files in
    let id = c.args.id in
    let orderly = orderly_is files id.file c.args.folds.now.orderly c.orderly.result c.requires.record.file_in c.requires.folds.orderly
    c.orderly.ensures in
    c.put_load_or_field.ensures.put
    ∙ ap (all_patched c.args.text.now)
    (sym (choice files c.args.plan.now.span c.args.places.now.sections c.args.pairs.now c.args.plan.now.text_start id c.args.load.now
    c.orderly.result c.requires.load orderly false (sym c.is_rewritten.ensures ∙ c.if-is_rewritten.false)))
