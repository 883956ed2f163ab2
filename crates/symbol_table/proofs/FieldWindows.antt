-- Which fields in order have bytes of a range, and which are far from it.
use Rattle.std.proofs.Common.{◌≡◌, ◌<◌, ◌≤◌, ℕ, ◌+◌, ◌-◌, ◌*◌, ◌^◌, Bool, true, false, cond, ◌&&◌, eqb, ltb, max, min, List, Option, None, Some, is_some, length, length-drop, take, drop, ap, ◌∙◌, arith}
use Rattle.std.specs.List.{filter, slice_index_or}
use Rattle.std.proofs.lemmas.Bool.Decides.{nat_tests}
use Rattle.std.proofs.lemmas.List.{take_all}
use Rattle.std.proofs.lemmas.List.Filters.{length-filter_more}
use Rattle.symbol_table.specs.declared.fields.RecordField.{RecordField}
use Rattle.symbol_table.specs.Fields.{meets}
use Rattle.symbol_table.specs.inside.Fields.{rank_of, AreHeld}
use Rattle.symbol_table.specs.laws.FilteredLists.{filter_dropped, filter_taken, length-filter-take}

-- what isn't below a number is that number or above
pub not_before : (m n : ℕ) → ltb m n ≡ false → n ≤ m
not_before m n test = grind (arith, nat_tests, test)

-- a field that begins more than its width before a range has no bytes of it
before_range : (own start width section from count low : ℕ) → width ≤ 8 → low ≡ from - 8 → own * 2 ^ 64 + start < section * 2 ^ 64 + low →
    (eqb own section && ltb (max start from) (min (start + width) (from + count))) ≡ false
before_range own start width section from count low narrow is before = grind (arith, nat_tests)

-- nor has one that begins behind it
after_range : (own start width section from count high : ℕ) → high ≡ from + count → section * 2 ^ 64 + high ≤ own * 2 ^ 64 + start →
    (eqb own section && ltb (max start from) (min (start + width) (from + count))) ≡ false
after_range own start width section from count high is after = grind (arith, nat_tests)

-- the fields that have bytes of a range are those of the part between
pub window_holds : (section from count low high : ℕ) (fields rest : List RecordField) (first end : ℕ) →
    ((k : ℕ) (d : RecordField) → k < length fields → (slice_index_or fields k d).width ≤ 8) →
    ((k : ℕ) (d : RecordField) → k < first → rank_of (slice_index_or fields k d) < section * 2 ^ 64 + low) → low ≡ from - 8 →
    rest ≡ drop first fields →
    ((k : ℕ) (d : RecordField) → end ≤ k → k < length rest → section * 2 ^ 64 + high ≤ rank_of (slice_index_or rest k d)) →
    high ≡ from + count →
    filter (meets section from count) (take end rest) ≡ filter (meets section from count) fields
window_holds section from count low high fields rest first end narrow before low_is is after high_is =
    filter_taken (meets section from count) rest end
    (λ k d past within. let f = slice_index_or rest k d in
    after_range f.id.section f.start f.width section from count high high_is (after k d past within))
    ∙ ap (filter (meets section from count)) is
    ∙ filter_dropped (meets section from count) fields first
    (λ k d early within. let f = slice_index_or fields k d in
    before_range f.id.section f.start f.width section from count low (narrow k d within) low_is (before k d early))

-- the rest of a slice
pub rest_is : (fields : List RecordField) (first : ℕ) → take (length fields - first) (drop first fields) ≡ drop first fields
rest_is fields first = take_all (length fields - first) (drop first fields) (simp length-drop (omega arith))

two_held : (fields : List RecordField) (f g : Option RecordField) → AreHeld fields f g → is_some f ≡ true → length fields ≡ 2
two_held fields None None held some = cc
two_held fields None (Some g) held some = cc
two_held fields (Some f) None held some = absurd held
two_held fields (Some f) (Some g) held some = ap length held

-- a third field
pub third_held : (p : RecordField → Bool) (fields : List RecordField) (i : ℕ) (f g : Option RecordField) (d : RecordField) →
    AreHeld (filter p (take i fields)) f g → is_some f ≡ true → i < length fields → p (slice_index_or fields i d) ≡ true →
    length (filter p fields) ≡ 2 → ⊥
third_held p fields i f g d held some within passes two =
    let before = two_held (filter p (take i fields)) f g held some in
    let more : length (filter p (take (i + 1) fields)) ≡ length (filter p (take i fields)) + 1 =
    length-filter_more p fields i d within ∙ ap (λ (b : Bool). length (filter p (take i fields)) + cond b 1 0) passes in
    let most = length-filter-take p fields (i + 1) in
    omega (arith, before, more, most, two)
