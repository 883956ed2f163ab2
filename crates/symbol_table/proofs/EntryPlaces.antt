-- The functions with two entry points of a file, and their places.
use Rattle.std.proofs.Common.{◌≡◌, ◌<◌, ◌≤◌, ℕ, zero, suc, ◌+◌, ◌*◌, ◌^◌, Bool, true, false, ◌&&◌, ◌||◌, eqb, List, [], ◌∷◌, ◌++◌, length, sym, ap, ◌∙◌, refl, arith, inl, inr, if◌then◌else◌, subst}
use Rattle.std.specs.List.{list_any, range_with_len, slice_index_or}
use Rattle.std.specs.List.Sorted.{IsNonDecreasingBy}
use Rattle.std.proofs.lemmas.Bool.{cases_lt}
use Rattle.std.proofs.lemmas.Bool.Decides.{nat_tests}
use Rattle.std.proofs.lemmas.List.Folds.{list_any-append, list_any_at, list_any_none}
use Rattle.std.proofs.Math.Bool.{or-false}
use Rattle.elf64_records.specs.Symbols.{st_value}
use Rattle.object_set.specs.Symbols.{has_section, index_of, entry_points}
use Rattle.symbol_table.specs.declared.places.FilePlace.{FilePlace}
use Rattle.symbol_table.specs.Prologue.{stands_at}
use Rattle.symbol_table.specs.inside.Places.{rank, is_place}
use Rattle.symbol_table.specs.inside.Entries.{entry_at}

-- one number more
pub range_more : (a n : ℕ) → range_with_len a (n + 1) ≡ range_with_len a n ++ (a + n) ∷ []
range_more a zero = let same : a ≡ a + 0 = omega arith in ap (λ (m : ℕ). m ∷ []) same
range_more a (suc n) =
    let same : a + 1 + n ≡ a + suc n = omega arith in
    let more : suc n + 1 ≡ suc (n + 1) = omega arith in
    ap (range_with_len a) more
    ∙ ap (λ (l : List ℕ). a ∷ l) (range_more (a + 1) n ∙ ap (λ (m : ℕ). range_with_len (a + 1) n ++ m ∷ []) same)

cases_of : (p q : Bool) → ((p && q) || false) ≡ (p && q && true)
cases_of true true = refl
cases_of true false = refl
cases_of false q = refl

last_false : (p : Bool) → false ≡ (p && false)
last_false true = refl
last_false false = refl

entry_case : (section at : ℕ) (p : FilePlace) (has two : Bool) →
    list_any (is_place section at) (if has && two then p ∷ [] else []) ≡ (has && eqb p.section section && eqb p.offset at && two)
entry_case section at p true true = cases_of (eqb p.section section) (eqb p.offset at)
entry_case section at p true false = last_false (eqb p.section section && eqb p.offset at)
entry_case section at p false two = refl

-- the place of a symbol, if it is such a function's
pub entry_stands : (b : List ℕ) (section at j : ℕ) → list_any (is_place section at) (entry_at b j) ≡ stands_at b section at j
entry_stands b section at j =
    entry_case section at (record { section = index_of b j; offset = st_value b j }) (has_section b j) (eqb (entry_points b j) 3)

-- one symbol more
pub entries_more : (b : List ℕ) (section at n : ℕ) (old new : List FilePlace) → new ≡ old ++ entry_at b n →
    list_any (is_place section at) old ≡ list_any (stands_at b section at) (range_with_len 0 n) →
    list_any (is_place section at) new ≡ list_any (stands_at b section at) (range_with_len 0 (n + 1))
entries_more b section at n old new is before =
    let p = is_place section at in
    let q = stands_at b section at in
    let zeroth : 0 + n ≡ n = omega arith in
    ap (list_any p) is ∙ list_any-append p old (entry_at b n)
    ∙ ap (λ (x : Bool). x || list_any p (entry_at b n)) before
    ∙ ap (λ (x : Bool). list_any q (range_with_len 0 n) || x) (entry_stands b section at n ∙ sym (or-false (q n)))
    ∙ sym (list_any-append q (range_with_len 0 n) (n ∷ []))
    ∙ ap (λ (m : ℕ). list_any q (range_with_len 0 n ++ m ∷ [])) (sym zeroth)
    ∙ ap (list_any q) (sym (range_more 0 n))

-- a place with another rank is another place
other_rank : (s o section at : ℕ) → s * 2 ^ 64 + o < section * 2 ^ 64 + at → (eqb s section && eqb o at) ≡ false
other_rank s o section at less = grind (arith, nat_tests)

-- the first place that isn't before one tells whether those behind it are that one
behind_other : (s o section at ps po : ℕ) → po < 2 ^ 64 → at < 2 ^ 64 → (eqb ps section && eqb po at) ≡ false →
    section * 2 ^ 64 + at ≤ ps * 2 ^ 64 + po → ps * 2 ^ 64 + po ≤ s * 2 ^ 64 + o → (eqb s section && eqb o at) ≡ false
behind_other s o section at ps po fits at_fits other after behind = grind (arith, nat_tests)

module _ (places : List FilePlace) (section at next : ℕ)
    (before : (k : ℕ) (d : FilePlace) → k < next → rank (slice_index_or places k d) < section * 2 ^ 64 + at) where
  -- no place is this one where all come before it
  pub none_left : length places ≤ next → list_any (is_place section at) places ≡ false
  none_left past =
      list_any_none (is_place section at) places
      (λ k d within. let p = slice_index_or places k d in
      other_rank p.section p.offset section at (before k d (omega arith)))

  found_case : (p : FilePlace) (is : Bool) → is_place section at p ≡ is → IsNonDecreasingBy rank places → next < length places →
      ((d : FilePlace) → p ≡ slice_index_or places next d) → p.offset < 2 ^ 64 → at < 2 ^ 64 →
      section * 2 ^ 64 + at ≤ rank p → is ≡ list_any (is_place section at) places
  found_case p true test sorted within here fits at_fits after =
      sym (list_any_at (is_place section at) places next p within (ap (is_place section at) (sym (here p)) ∙ test))
  found_case p false test sorted within here fits at_fits after =
      sym (list_any_none (is_place section at) places
      (λ k d inside. let q = slice_index_or places k d in
      elim (cases_lt k next) [
        | inl less ↦ other_rank q.section q.offset section at (before k d less)
        | inr most ↦ (
            let up : rank (slice_index_or places next d) ≤ rank q = sorted next k d most inside in
            let behind : rank p ≤ rank q = subst (λ (x : FilePlace). rank x ≤ rank q) (sym (here d)) up in
            behind_other q.section q.offset section at p.section p.offset fits at_fits test after behind)
      ]))

  -- the first place that isn't before one is that one, if any is
  pub first_left : (p : FilePlace) → IsNonDecreasingBy rank places → next < length places →
      ((d : FilePlace) → p ≡ slice_index_or places next d) → p.offset < 2 ^ 64 → at < 2 ^ 64 →
      section * 2 ^ 64 + at ≤ rank p → is_place section at p ≡ list_any (is_place section at) places
  first_left p sorted within here fits at_fits after =
      found_case p (is_place section at p) refl sorted within here fits at_fits after
