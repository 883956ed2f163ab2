-- The calls among records.
use Rattle.std.proofs.Common.{◌≡◌, ◌<◌, ℕ, true, List, [], ◌∷◌, ◌++◌, map, filter, length, sym, ap, ◌∙◌, subst, refl, append_assoc, add-one, ◌+◌}
use Rattle.std.specs.List.{All, slice_index_or}
use Rattle.std.proofs.lemmas.List.{map-append}
use Rattle.std.proofs.lemmas.List.Elements.{All-map, All-filter, filter-append, filter_passes}
use Rattle.elf64_records.specs.Records.{record_count}
use Rattle.object_set.specs.declared.places.RecordId.{RecordId}
use Rattle.object_set.specs.Files.{file_at}
use Rattle.object_set.specs.Walks.{items_in, record_walk, records_in, record_id}
use Rattle.symbol_table.specs.declared.fields.RecordField.{RecordField}
use Rattle.symbol_table.specs.Fields.{field_of, fields_of, records_of}
use Rattle.symbol_table.specs.inside.Fields.{IsFieldOf}
use Rattle.symbol_table.proofs.FileRecords.{fields_are}
use Rattle.call_sites.specs.Sites.{is_call}
use Rattle.call_sites.specs.inside.Calls.{IsCall, unsorted_calls}

-- what is kept of two parts of a list, one after the other
kept_more : (b : List ℕ) (out old : List RecordField) (front more : List RecordId) (new : List RecordField) →
    out ≡ old ++ filter (is_call b) (map (field_of b) front) →
    new ≡ out ++ filter (is_call b) (map (field_of b) more) →
    new ≡ old ++ filter (is_call b) (map (field_of b) (front ++ more))
kept_more b out old front more new so_far is =
    let p = is_call b in
    let f = field_of b in
    is ∙ ap (λ (l : List RecordField). l ++ filter p (map f more)) so_far
    ∙ append_assoc old (filter p (map f front)) (filter p (map f more))
    ∙ ap (λ (l : List RecordField). old ++ l) (sym (filter-append p (map f front) (map f more)))
    ∙ ap (λ (l : List RecordField). old ++ filter p l) (sym (map-append f front more))

-- one record more
pub entry_more : (file : ℕ) (b : List ℕ) (table n : ℕ) (out old new : List RecordField) →
    out ≡ old ++ filter (is_call b) (map (field_of b) (records_in file b table n)) →
    new ≡ out ++ filter (is_call b) (field_of b (record_id file b table n) ∷ []) →
    new ≡ old ++ filter (is_call b) (map (field_of b) (records_in file b table (n + 1)))
entry_more file b table n out old new so_far is =
    kept_more b out old (records_in file b table n) (record_id file b table n ∷ []) new so_far is
    ∙ ap (λ (m : ℕ). old ++ filter (is_call b) (map (field_of b) (records_in file b table m))) (sym (add-one n))

-- one section more
pub table_more : (file : ℕ) (b : List ℕ) (n : ℕ) (out new : List RecordField) →
    out ≡ filter (is_call b) (map (field_of b) (items_in record_walk file b n)) →
    new ≡ out ++ filter (is_call b) (map (field_of b) (records_in file b n (record_count b n))) →
    new ≡ filter (is_call b) (map (field_of b) (items_in record_walk file b (n + 1)))
table_more file b n out new so_far is =
    kept_more b out [] (items_in record_walk file b n) (records_in file b n (record_count b n)) new so_far is
    ∙ ap (λ (m : ℕ). filter (is_call b) (map (field_of b) (items_in record_walk file b m))) (sym (add-one n))

own_case : (files : List (List ℕ)) (file : ℕ) (f : RecordField) → IsFieldOf files file f → f ≡ field_of (file_at files file) f.id →
    is_call (file_at files file) f ≡ true → IsCall files f
own_case files file f is own call = record {
  record_in = is.record_in;
  field_is = subst (λ (n : ℕ). f ≡ field_of (file_at files n) f.id) (sym is.file_is) own;
  call = subst (λ (n : ℕ). is_call (file_at files n) f ≡ true) (sym is.file_is) call;
}

-- they are calls of the set
pub unsorted_are : (files : List (List ℕ)) (file : ℕ) → file < length files → All (IsCall files) (unsorted_calls file (file_at files file))
unsorted_are files file file_in =
    let b = file_at files file in
    let fields = fields_of file b in
    let each = All-filter (is_call b) (IsFieldOf files file) fields (fields_are files file file_in) in
    let own = All-filter (is_call b) (λ f. f ≡ field_of b f.id) fields
    (All-map (λ f. f ≡ field_of b f.id) (field_of b) (records_of file b) (λ k d within. refl)) in
    let calls = filter_passes (is_call b) fields in
    λ k d within. own_case files file (slice_index_or (unsorted_calls file b) k d) (each k d within) (own k d within) (calls k d within)
