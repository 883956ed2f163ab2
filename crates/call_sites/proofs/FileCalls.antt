-- The calls of a file, sorted, are those at each offset of each section.
use Rattle.std.proofs.Common.{◌≡◌, ◌<◌, ℕ, List, length, None, subst, arith}
use Rattle.std.specs.List.{All, slice_index_or}
use Rattle.std.proofs.lemmas.List.Elements.{All-filter}
use Rattle.std.proofs.lemmas.List.Sorted.{All-permutation}
use Rattle.object_set.specs.Files.{file_at}
use Rattle.object_set.specs.Refusals.{set_refusal}
use Rattle.symbol_table.specs.declared.fields.RecordField.{RecordField}
use Rattle.symbol_table.specs.Fields.{fields_of}
use Rattle.symbol_table.specs.Records.{records_refusal}
use Rattle.symbol_table.specs.inside.Fields.{IsFieldOf}
use Rattle.symbol_table.proofs.FileRecords.{fields_are}
use Rattle.call_sites.specs.Sites.{is_call}
use Rattle.call_sites.specs.laws.TextSizes.{text_small}
use Rattle.call_sites.specs.laws.SoundCalls.{IsSoundCall, call_sound}
use Rattle.call_sites.specs.inside.Calls.{IsCall, IsInOrder, unsorted_calls, file_calls}
use Rattle.call_sites.specs.laws.RecordCalls.{unsorted_are}
use Rattle.call_sites.proofs.PlacedCalls.{IsPlaced, calls_placed}

placed_case : (files : List (List ℕ)) (f : RecordField) → set_refusal files ≡ None → IsSoundCall files f →
    IsPlaced (file_at files f.id.file) f
placed_case files f whole sound = record {
  section_in = sound.section_in;
  text = sound.text;
  within = omega (arith, sound.within);
  small = text_small files f.id.file f.id.section whole sound.file_in sound.section_in sound.text;
}

module _ (files : List (List ℕ)) (file : ℕ) (calls : List RecordField) (whole : set_refusal files ≡ None)
    (sound : records_refusal files ≡ None) (file_in : file < length files)
    (ordered : IsInOrder (unsorted_calls file (file_at files file)) calls) where
  placed : All (IsPlaced (file_at files file)) (unsorted_calls file (file_at files file))
  placed =
      let b = file_at files file in
      let each = unsorted_are files file file_in in
      let own = All-filter (is_call b) (IsFieldOf files file) (fields_of file b) (fields_are files file file_in) in
      λ k d within. (
      let f = slice_index_or (unsorted_calls file b) k d in
      subst (λ (n : ℕ). IsPlaced (file_at files n) f) (own k d within).file_is
      (placed_case files f whole (call_sound files f whole sound (each k d within))))

  pub sorted_calls : calls ≡ file_calls file (file_at files file)
  sorted_calls =
      calls_placed file (file_at files file) calls ordered placed (λ i within text. text_small files file i whole file_in within text)

  pub sorted_are : All (IsCall files) calls
  sorted_are = All-permutation (IsCall files) (unsorted_calls file (file_at files file)) calls ordered.same
      (unsorted_are files file file_in)
