-- free_slots-requires: slots are low. returns: those that are free are the foldable ones.
use Rattle.std.proofs.Common.{◌≡◌, ◌≤◌, ℕ, Bool, List, None, map, filter, length, sym, ap, ◌∙◌, subst, arith}
use Rattle.std.specs.List.{All, range_with_len, flat_map}
use Rattle.std.specs.List.Sorted.{IsPermutation}
use Rattle.std.proofs.lemmas.List.{length-map}
use Rattle.std.proofs.lemmas.List.FromFn.{length-range_with_len}
use Rattle.object_set.specs.Refusals.{set_refusal}
use Rattle.toc_rewrite.specs.declared.found.Slot.{Slot}
use Rattle.toc_rewrite.specs.declared.uses.SlotUse.{SlotUse}
use Rattle.toc_rewrite.specs.Laid.{LaidFiles, laid_files}
use Rattle.toc_rewrite.specs.Records.{all_records}
use Rattle.toc_rewrite.specs.Folds.{is_orderly}
use Rattle.toc_rewrite.specs.inside.Uses.{use_of}
use Rattle.toc_rewrite.specs.inside.Slots.{IsLowSlot, candidate_of, is_free}
use Rattle.toc_rewrite.proofs.KeptSlots.{low_slots, free_are, sorted_folds}
use Rattle.toc_rewrite.proofs.folds.foldable.Goals as goal

-- whether each of the files is orderly
abbrev AreOrderly : LaidFiles → List Bool → Type 0
AreOrderly laid orderly = orderly ≡ map (is_orderly laid.files) (range_with_len 0 (length laid.files))

length-orderly : (laid : LaidFiles) (orderly : List Bool) → AreOrderly laid orderly → length orderly ≡ length laid.files
length-orderly laid orderly are =
    ap length are ∙ length-map (range_with_len 0 (length laid.files)) (is_orderly laid.files) ∙ length-range_with_len 0 (length laid.files)

-- what is found of files that are not refused: which of them are orderly, and the slots and uses of all records
record AreFound (laid : LaidFiles) (orderly : List Bool) (slots : List Slot) (uses : List SlotUse) : Type 0 where
  whole : set_refusal laid.files ≡ None
  few : length laid.files ≤ 4096
  orderly_are : AreOrderly laid orderly
  slots_are : slots ≡ flat_map (candidate_of laid) (all_records laid.files)
  uses_are : uses ≡ flat_map (use_of laid) (all_records laid.files)

found_in : (laid read : LaidFiles) (set : List (List ℕ)) (count : ℕ) (orderly : List Bool) (slots : List Slot) (uses : List SlotUse) →
    read ≡ laid → set ≡ laid.files → set_refusal set ≡ None → count ≡ length set → count ≤ 4096 → AreOrderly read orderly →
    slots ≡ flat_map (candidate_of read) (all_records read.files) → uses ≡ flat_map (use_of read) (all_records read.files) →
    AreFound laid orderly slots uses
found_in laid read set count orderly slots uses same files whole long few orderly_are slots_are uses_are = record {
  whole = ap set_refusal (sym files) ∙ whole;
  few = omega (arith, ap length files, long, few);
  orderly_are = subst (λ (l : LaidFiles). AreOrderly l orderly) same orderly_are;
  slots_are = subst (λ (l : LaidFiles). slots ≡ flat_map (candidate_of l) (all_records l.files)) same slots_are;
  uses_are = subst (λ (l : LaidFiles). uses ≡ flat_map (use_of l) (all_records l.files)) same uses_are;
}

pub free_slots-requires : goal.free_slots-requires
free_slots-requires c =
    let files = c.args.res.now.files in
    let laid = laid_files files c.args.bases.now c.args.pieces.now in
    let found = found_in laid c.in_ok-laid.laid c.set.result.now c.file_count-files.result c.in_ok-orderly.orderly.items
    c.in_ok-uses.field-0.slots.items c.in_ok-uses.field-0.uses.items c.in_ok-laid.ensures c.set.ensures c.file_count-files.ensures.whole
    c.file_count-files.ensures.count c.file_count-files.ensures.few c.in_ok-orderly.ensures c.in_ok-uses.ensures.slots
    c.in_ok-uses.ensures.uses in
    let low = low_slots laid found.whole found.few c.requires.whole c.requires.addresses c.in_ok-uses.field-0.slots.items found.slots_are in
    let here = subst (All (IsLowSlot (length files))) (sym c.as_slice-2.ensures.value) low in
    let long : length files ≡ length c.as_slice.result.now =
    sym (ap length c.as_slice.ensures.value ∙ length-orderly laid c.in_ok-orderly.orderly.items found.orderly_are) in
    subst (λ (n : ℕ). All (IsLowSlot n) c.as_slice-2.result.now) long here

pub returns : goal.returns
returns c =
    let files = c.args.res.now.files in
    let laid = laid_files files c.args.bases.now c.args.pieces.now in
    let found = found_in laid c.in_ok-laid.laid c.set.result.now c.file_count-files.result c.in_ok-orderly.orderly.items
    c.in_ok-uses.field-0.slots.items c.in_ok-uses.field-0.uses.items c.in_ok-laid.ensures c.set.ensures c.file_count-files.ensures.whole
    c.file_count-files.ensures.count c.file_count-files.ensures.few c.in_ok-orderly.ensures c.in_ok-uses.ensures.slots
    c.in_ok-uses.ensures.uses in
    let same = subst (λ (l : List SlotUse). IsPermutation l c.of-uses.result) found.uses_are c.of-uses.ensures in
    let free = c.in_ok-free.ensures
    ∙ ap (λ (o : List Bool). filter (is_free o c.of-uses.result) c.as_slice-2.result.now) c.as_slice.ensures.value
    ∙ ap (filter (is_free c.in_ok-orderly.orderly.items c.of-uses.result)) c.as_slice-2.ensures.value in
    let are = free_are laid found.whole found.few c.requires.whole c.requires.addresses c.in_ok-orderly.orderly.items c.of-uses.result
    c.in_ok-uses.field-0.slots.items c.in_ok-free.free.items found.orderly_are same found.slots_are free in
    sorted_folds laid c.in_ok-orderly.orderly.items c.in_ok-free.free.items c.sort_slots.new.slots.items found.orderly_are are
    c.sort_slots.ensures.same
