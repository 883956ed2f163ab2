-- Fields that have bytes of two words, seen one after the other.
use Rattle.std.proofs.Common.{◌≡◌, ℕ, ◌+◌, Bool, true, false, ◌||◌, ◌&&◌, eqb, cond, min, List, [], ◌∷◌, ◌++◌, map, length, filter, sym, ap, ◌∙◌, refl, arith, append_assoc, add-one, if◌then◌else◌}
use Rattle.std.specs.List.{list_any}
use Rattle.std.proofs.Math.Bool.{or-false}
use Rattle.std.proofs.lemmas.Bool.Decides.{nat_tests}
use Rattle.std.proofs.lemmas.List.{append-nil, map-append, length_push}
use Rattle.std.proofs.lemmas.List.Elements.{filter-append}
use Rattle.std.proofs.lemmas.List.Folds.{list_any-append}
use Rattle.elf64_records.specs.Records.{record_count}
use Rattle.object_set.specs.Walks.{items_in, record_walk, records_in, record_id}
use Rattle.symbol_table.specs.declared.fields.RecordField.{RecordField}
use Rattle.symbol_table.specs.Fields.{field_of, fields_of, fields_meeting}
use Rattle.symbol_table.specs.Prologue.{are_halves}
use Rattle.call_sites.specs.declared.prologue.Halves.{Halves}
use Rattle.call_sites.specs.declared.prologue.Seen.{Seen}
use Rattle.call_sites.specs.inside.Halves.{is_met, is_high, is_low, seen_of, with_field, SeesMore}

abbrev seen : ℕ → Bool → Bool → Seen
seen count high low = record { count = count; high = high; low = low }

count_more : (n m : ℕ) → m ≡ n + 1 → min m 3 ≡ min (min n 3 + 1) 3
count_more n m is = omega arith

module _ (b : List ℕ) (h : Halves) where
  any_more : (p : RecordField → Bool) (met : List RecordField) (f : RecordField) → list_any p (met ++ f ∷ []) ≡ (list_any p met || p f)
  any_more p met f = list_any-append p met (f ∷ []) ∙ ap (λ (t : Bool). list_any p met || t) (or-false (p f))

  one_case : (fields : List RecordField) (f : RecordField) (t : Bool) → is_met b h f ≡ t →
      seen_of b h (fields ++ f ∷ []) ≡ (if t then seen (min ((seen_of b h fields).count + 1) 3) ((seen_of b h fields).high || is_high b h f)
      ((seen_of b h fields).low || is_low b h f) else seen_of b h fields)
  one_case fields f true is =
      let met = filter (is_met b h) fields in
      let more : filter (is_met b h) (fields ++ f ∷ []) ≡ met ++ f ∷ [] =
      filter-append (is_met b h) fields (f ∷ []) ∙ ap (λ (t : Bool). met ++ cond t (f ∷ []) []) is in
      let all = met ++ f ∷ [] in
      ap (λ (l : List RecordField). seen (min (length l) 3) (list_any (is_high b h) l) (list_any (is_low b h) l)) more
      ∙ ap (λ (n : ℕ). seen n (list_any (is_high b h) all) (list_any (is_low b h) all))
      (count_more (length met) (length all) (length_push met f))
      ∙ ap (λ (t : Bool). seen (min (min (length met) 3 + 1) 3) t (list_any (is_low b h) all)) (any_more (is_high b h) met f)
      ∙ ap (λ (t : Bool). seen (min (min (length met) 3 + 1) 3) (list_any (is_high b h) met || is_high b h f) t)
      (any_more (is_low b h) met f)
  one_case fields f false is =
      let met = filter (is_met b h) fields in
      let more : filter (is_met b h) (fields ++ f ∷ []) ≡ met =
      filter-append (is_met b h) fields (f ∷ []) ∙ ap (λ (t : Bool). met ++ cond t (f ∷ []) []) is ∙ append-nil met in
      ap (λ (l : List RecordField). seen (min (length l) 3) (list_any (is_high b h) l) (list_any (is_low b h) l)) more

  seen_one : (fields : List RecordField) (f : RecordField) → seen_of b h (fields ++ f ∷ []) ≡ with_field b h (seen_of b h fields) f
  seen_one fields f = one_case fields f (is_met b h f) refl

  -- nothing more is seen
  pub sees_none : (old : Seen) → SeesMore b h old old []
  sees_none old = λ fields is. is ∙ ap (seen_of b h) (sym (append-nil fields))

  -- one record more
  pub sees_record : (file table n : ℕ) (old so_far new : Seen) →
      SeesMore b h old so_far (map (field_of b) (records_in file b table n)) →
      new ≡ with_field b h so_far (field_of b (record_id file b table n)) →
      SeesMore b h old new (map (field_of b) (records_in file b table (n + 1)))
  sees_record file table n old so_far new before is =
      λ fields at_first.
      (let front = map (field_of b) (records_in file b table n) in
      let f = field_of b (record_id file b table n) in
      is ∙ ap (λ (s : Seen). with_field b h s f) (before fields at_first)
      ∙ sym (seen_one (fields ++ front) f)
      ∙ ap (seen_of b h) (append_assoc fields front (f ∷ []))
      ∙ ap (λ (l : List RecordField). seen_of b h (fields ++ l))
      (sym (map-append (field_of b) (records_in file b table n) (record_id file b table n ∷ [])))
      ∙ ap (λ (m : ℕ). seen_of b h (fields ++ map (field_of b) (records_in file b table m))) (sym (add-one n)))

  -- one section more
  pub sees_table : (file n : ℕ) (old new : Seen) → old ≡ seen_of b h (map (field_of b) (items_in record_walk file b n)) →
      SeesMore b h old new (map (field_of b) (records_in file b n (record_count b n))) →
      new ≡ seen_of b h (map (field_of b) (items_in record_walk file b (n + 1)))
  sees_table file n old new before more =
      let front = items_in record_walk file b n in
      let back = records_in file b n (record_count b n) in
      more (map (field_of b) front) before
      ∙ ap (seen_of b h) (sym (map-append (field_of b) front back))
      ∙ ap (λ (m : ℕ). seen_of b h (map (field_of b) (items_in record_walk file b m))) (sym (add-one n))

  counted : (n : ℕ) → eqb (min n 3) 2 ≡ eqb n 2
  counted n = grind (arith, nat_tests)

  -- the halves are there
  pub halves_seen : (file : ℕ) (all : Seen) → all ≡ seen_of b h (fields_of file b) →
      (eqb all.count 2 && all.high && all.low) ≡ are_halves b h.form h.at (fields_meeting file b h.section h.at 8)
  halves_seen file all is =
      let met = filter (is_met b h) (fields_of file b) in
      ap (λ (s : Seen). eqb s.count 2 && s.high && s.low) is
      ∙ ap (λ (t : Bool). t && list_any (is_high b h) met && list_any (is_low b h) met) (counted (length met))
