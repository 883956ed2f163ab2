-- The first and the last call of each key.
use Rattle.std.proofs.Common.{ℕ, zero, suc, ◌≡◌, ◌≢◌, ◌<◌, ◌≤◌, ◌+◌, ◌⊎◌, inl, inr, Bool, true, false, List, [], ◌∷◌, ◌++◌, length, max}
use Rattle.std.proofs.Common.{slice_index, set, nat_lt, ap, sym, ◌∙◌, refl, subst, arith, rules, add-one, if◌then◌else◌}
use Rattle.std.specs.List.{position_or_len}
use Rattle.std.proofs.lemmas.Grind.{common_steps}
use Rattle.std.proofs.lemmas.Bool.Decides.{nat_tests}
use Rattle.std.proofs.lemmas.List.{get_or-set_same, get_or-set_other, get_or-map, length-map}
use Rattle.stub_kinds.specs.declared.class.Key.{Key}
use Rattle.layout_rounds.specs.declared.shape.Shape.{Shape}
use Rattle.layout_rounds.specs.declared.shape.ShapeSite.{ShapeSite}
use Rattle.layout_rounds.specs.declared.grouping.Spot.{Spot}
use Rattle.layout_rounds.specs.declared.near.Ends.{Ends}
use Rattle.layout_rounds.specs.Shapes.{KeyedText, keyed_text, site_of, no_site, key_of, same_key, keys_upto, keys_of, number_of}
use Rattle.layout_rounds.specs.Layout.{key_count}
use Rattle.layout_rounds.specs.inside.Ways.{keys_seen, no_ends, ends_at, ends_with, AreInOrder, IsEnds, AreEnds, AreEndsIn}
use Rattle.layout_rounds.specs.inside.Calls.{AreCalls}
use Rattle.layout_rounds.proofs.KeyNumbers.{first_most, first_new, with_old, with_new, same_itself}
use Rattle.layout_rounds.proofs.KeysUpto.{with_long, with_kept}
use Rattle.layout_rounds.proofs.Pushed.{pushed_length}
use Rattle.layout_rounds.proofs.Called.{found_upto}
use Rattle.layout_rounds.proofs.Cases.{same_or_other, below_or_same, below_or_last, upto_or_next, split}

-- ---- one more call

seen_next : (numbers : List ℕ) (n : ℕ) →
    keys_seen numbers (n + 1) ≡ max (keys_seen numbers n) (slice_index numbers n + 1)
seen_next numbers n = rw (add-one n) refl

below_seen : (numbers : List ℕ) (j n : ℕ) → j < n → slice_index numbers j < keys_seen numbers n
below_seen numbers j zero lt = absurd (omega (arith, lt))
below_seen numbers j (suc n) lt = elim (below_or_last j n lt) [
  | inl before ↦ let ih = below_seen numbers j n before in omega (arith, ih)
  | inr same ↦ rw same (omega arith)
]

module _ (numbers : List ℕ) (i : ℕ) where
  -- a call of another key
  ends_kept : (k : ℕ) (e : Ends) → IsEnds numbers i k e → slice_index numbers i ≢ k → IsEnds numbers (i + 1) k e
  ends_kept k e old other = record {
    first_in = omega (arith, old.first_in);
    first_is = old.first_is;
    last_in = omega (arith, old.last_in);
    last_is = old.last_is;
    above = λ j lt is. elim (split j i lt) [
      | inl before ↦ old.above j before is
      | inr same ↦ absurd (other (ap (slice_index numbers) (sym same) ∙ is))
    ];
    below = λ j lt is. elim (split j i lt) [
      | inl before ↦ old.below j before is
      | inr same ↦ absurd (other (ap (slice_index numbers) (sym same) ∙ is))
    ];
  }

  -- a further call of a key
  ends_last : (k : ℕ) (e : Ends) →
      IsEnds numbers i k e →
      slice_index numbers i ≡ k →
      IsEnds numbers (i + 1) k (record e { last = i })
  ends_last k e old here = record {
    first_in = omega (arith, old.first_in);
    first_is = old.first_is;
    last_in = omega arith;
    last_is = here;
    above = λ j lt is. elim (split j i lt) [
      | inl before ↦ old.above j before is
      | inr same ↦ omega (arith, same, old.first_in)
    ];
    below = λ j lt is. omega (arith, lt);
  }

  -- the first call of a key
  ends_first : (k : ℕ) →
      keys_seen numbers i ≤ k →
      slice_index numbers i ≡ k →
      IsEnds numbers (i + 1) k (record { first = i; last = i })
  ends_first k new here = record {
    first_in = omega arith;
    first_is = here;
    last_in = omega arith;
    last_is = here;
    above = λ j lt is. elim (split j i lt) [
      | inl before ↦ absurd (let seen = below_seen numbers j i before in omega (arith, seen, is, new))
      | inr same ↦ omega (arith, same)
    ];
    below = λ j lt is. omega (arith, lt);
  }

  -- a call of a key that was seen
  ends_again : (ends : List Ends) (k : ℕ) →
      AreEnds numbers i ends →
      k < length ends →
      slice_index numbers i ≡ k →
      AreEnds numbers (i + 1) (set ends k (record (ends_at ends k) { last = i }))
  ends_again ends k so_far lt here =
      let seen : keys_seen numbers (i + 1) ≡ keys_seen numbers i =
      omega (arith, seen_next numbers i, here, lt, so_far.count) in
      record {
        count = let long : length (set ends k (record (ends_at ends k) { last = i })) ≡ length ends = search rules in
            omega (arith, long, seen, so_far.count);
        each = λ q within. elim (same_or_other q k) [
          | inl same ↦ subst
              (λ (j : ℕ). IsEnds numbers (i + 1) j (ends_at (set ends k (record (ends_at ends k) { last = i })) j))
              (sym same)
              (subst (λ (e : Ends). IsEnds numbers (i + 1) k e)
              (sym (get_or-set_same ends k (record (ends_at ends k) { last = i }) no_ends lt))
              (ends_last k (ends_at ends k) (so_far.each k (omega (arith, lt, so_far.count))) here))
          | inr apart ↦ subst (λ (e : Ends). IsEnds numbers (i + 1) q e)
              (sym (get_or-set_other ends k q (record (ends_at ends k) { last = i }) no_ends apart))
              (ends_kept q (ends_at ends q) (so_far.each q (omega (arith, within, seen)))
              (λ is. apart (sym is ∙ here)))
        ];
      }

  ends_before : (ends : List Ends) (e : Ends) (q : ℕ) → q < length ends → ends_at (ends ++ e ∷ []) q ≡ ends_at ends q
  ends_before ends e q lt = grind (arith, common_steps)

  ends_end : (ends : List Ends) (e : Ends) → ends_at (ends ++ e ∷ []) (length ends) ≡ e
  ends_end ends e = grind (arith, common_steps)

  ends_long : (ends : List Ends) (e : Ends) → length (ends ++ e ∷ []) ≡ length ends + 1
  ends_long ends e = grind (arith, common_steps)

  -- a call of the next key
  ends_next : (ends : List Ends) →
      AreEnds numbers i ends →
      slice_index numbers i ≡ length ends →
      AreEnds numbers (i + 1) (ends ++ record { first = i; last = i } ∷ [])
  ends_next ends so_far here =
      let seen : keys_seen numbers (i + 1) ≡ length ends + 1 =
      omega (arith, seen_next numbers i, here, so_far.count) in
      record {
        count = omega (arith, ends_long ends (record { first = i; last = i }), seen);
        each = λ q within. elim (split q (length ends) (omega (arith, within, seen))) [
          | inl before ↦ subst (λ (e : Ends). IsEnds numbers (i + 1) q e)
              (sym (ends_before ends (record { first = i; last = i }) q before))
              (ends_kept q (ends_at ends q) (so_far.each q (omega (arith, before, so_far.count)))
              (λ is. absurd (omega (arith, is, here, before))))
          | inr same ↦ subst
              (λ (j : ℕ). IsEnds numbers (i + 1) j (ends_at (ends ++ record { first = i; last = i } ∷ []) j))
              (sym same)
              (subst (λ (e : Ends). IsEnds numbers (i + 1) (length ends) e)
              (sym (ends_end ends (record { first = i; last = i })))
              (ends_first (length ends) (omega (arith, so_far.count)) here))
        ];
      }

  test_below : (a b : ℕ) → a < b → nat_lt a b ≡ true
  test_below a b lt = grind (arith, nat_tests, lt)

  test_not : (a b : ℕ) → a ≡ b → nat_lt a b ≡ false
  test_not a b e = grind (arith, nat_tests, e)

  pub ends_more : (ends new : List Ends) →
      AreEnds numbers i ends →
      slice_index numbers i ≤ keys_seen numbers i →
      new ≡ ends_with ends (slice_index numbers i) i →
      AreEnds numbers (i + 1) new
  ends_more ends new so_far le with =
      let k = slice_index numbers i in
      let again = set ends k (record (ends_at ends k) { last = i }) in
      let more = ends ++ record { first = i; last = i } ∷ [] in
      elim (below_or_same k (length ends) (omega (arith, le, so_far.count))) [
        | inl lt ↦ subst (λ (xs : List Ends). AreEnds numbers (i + 1) xs)
            (sym (with ∙ ap (λ (b : Bool). if b then again else more) (test_below k (length ends) lt)))
            (ends_again ends k so_far lt refl)
        | inr e ↦ subst (λ (xs : List Ends). AreEnds numbers (i + 1) xs)
            (sym (with ∙ ap (λ (b : Bool). if b then again else more) (test_not k (length ends) e)))
            (ends_next ends so_far e)
      ]

-- ---- keys are numbered in the order of their first calls

module _ (spots : List Spot) (sites : List ShapeSite) where
  long_more : (m n : ℕ) → m ≤ n → length (keys_upto spots sites m) ≤ length (keys_upto spots sites n)
  long_more m zero le = let e : m ≡ 0 = omega (arith, le) in rw e (omega arith)
  long_more m (suc n) le = elim (upto_or_next m n le) [
    | inl before ↦
        let ih = long_more m n before in
        let long = with_long (keys_upto spots sites n) (key_of spots (site_of sites n)) in
        omega (arith, ih, long.0)
    | inr same ↦ rw same (omega arith)
  ]

  -- where a key was found it stays
  kept_upto : (p : Key → Bool) (m n : ℕ) →
      m ≤ n →
      position_or_len p (keys_upto spots sites m) < length (keys_upto spots sites m) →
      position_or_len p (keys_upto spots sites n) ≡ position_or_len p (keys_upto spots sites m)
  kept_upto p m zero le found = let e : m ≡ 0 = omega (arith, le) in rw e refl
  kept_upto p m (suc n) le found = elim (upto_or_next m n le) [
    | inl before ↦
        let ih = kept_upto p m n before found in
        let long = long_more m n before in
        with_kept p (keys_upto spots sites n) (key_of spots (site_of sites n)) (omega (arith, ih, long, found)) ∙ ih
    | inr same ↦ rw same refl
  ]

  -- the number of a call's key is one that was seen, or the next
  pub number_first : (i : ℕ) →
      i < length sites →
      ((number_of spots (keys_of spots sites) (site_of sites i) < length (keys_upto spots sites i))
      × (length (keys_upto spots sites (suc i)) ≡ length (keys_upto spots sites i)))
      ⊎ ((number_of spots (keys_of spots sites) (site_of sites i) ≡ length (keys_upto spots sites i))
      × (length (keys_upto spots sites (suc i)) ≡ length (keys_upto spots sites i) + 1))
  number_first i lt =
      let keys = keys_upto spots sites i in
      let key = key_of spots (site_of sites i) in
      let p = same_key key in
      let kept = kept_upto p (suc i) (length sites) (omega (arith, lt)) (found_upto spots sites i (suc i) (omega arith)) in
      elim (below_or_same (position_or_len p keys) (length keys) (first_most p keys)) [
        | inl before ↦
            let e = with_old keys key before in
            let at = ap (λ (zs : List Key). position_or_len p zs) e in
            inl (omega (arith, kept, at, before), ap (λ (zs : List Key). length zs) e)
        | inr none ↦
            let e = with_new keys key none in
            let at = ap (λ (zs : List Key). position_or_len p zs) e in
            let new = first_new p keys key none (same_itself key) in
            inr (omega (arith, kept, at, new), ap (λ (zs : List Key). length zs) e ∙ pushed_length keys key)
      ]

module _ (shape : Shape) (span : ℕ) where
  number_is : (i : ℕ) →
      i < length shape.sites.items →
      slice_index (keyed_text shape span).numbers i ≡ number_of (keyed_text shape span).spots
      (keys_of (keyed_text shape span).spots shape.sites.items) (site_of shape.sites.items i)
  number_is i lt =
      let spots = (keyed_text shape span).spots in
      let sites = shape.sites.items in
      get_or-map (number_of spots (keys_of spots sites)) sites i no_site 0 lt

  seen_is : (n : ℕ) →
      n ≤ length shape.sites.items →
      keys_seen (keyed_text shape span).numbers n ≡ length (keys_upto (keyed_text shape span).spots shape.sites.items n)
  seen_is zero le = refl
  seen_is (suc n) le =
      let ih = seen_is n (omega (arith, le)) in
      let is = number_is n (omega (arith, le)) in
      elim (number_first (keyed_text shape span).spots shape.sites.items n (omega (arith, le))) [
        | inl old ↦ omega (arith, ih, is, old.0, old.1)
        | inr new ↦ omega (arith, ih, is, new.0, new.1)
      ]

  in_order : (i : ℕ) →
      i < length shape.sites.items →
      slice_index (keyed_text shape span).numbers i ≤ keys_seen (keyed_text shape span).numbers i
  in_order i lt =
      let seen = seen_is i (omega (arith, lt)) in
      let is = number_is i lt in
      elim (number_first (keyed_text shape span).spots shape.sites.items i lt) [
        | inl old ↦ omega (arith, seen, is, old.0)
        | inr new ↦ omega (arith, seen, is, new.0)
      ]

  numbers_long : length (keyed_text shape span).numbers ≡ length shape.sites.items
  numbers_long =
      let spots = (keyed_text shape span).spots in
      length-map shape.sites.items (number_of spots (keys_of spots shape.sites.items))

  text_in_order : AreInOrder (keyed_text shape span).numbers
  text_in_order i lt = in_order i (omega (arith, lt, numbers_long))

  -- the numbers of a text's keys come in order
  pub numbers_in_order : (t : KeyedText) (numbers : List ℕ) →
      t ≡ keyed_text shape span →
      numbers ≡ t.numbers →
      AreInOrder numbers
  numbers_in_order t numbers is are =
      subst AreInOrder (sym (are ∙ ap (λ (x : KeyedText). x.numbers) is)) text_in_order

  -- each key of a text has a first and a last call
  pub record AreKeyEnds (t : KeyedText) (ends : List Ends) : Type 0 where
    pub count : length ends ≡ key_count t
    pub each : (k : ℕ) → k < key_count t → IsEnds t.numbers (length shape.sites.items) k (ends_at ends k)

  text_ends : (ends : List Ends) →
      AreEnds (keyed_text shape span).numbers (length (keyed_text shape span).numbers) ends →
      AreKeyEnds (keyed_text shape span) ends
  text_ends ends are =
      let all = subst (λ (n : ℕ). AreEnds (keyed_text shape span).numbers n ends) numbers_long are in
      let seen = seen_is (length shape.sites.items) (omega arith) in
      record {
        count = all.count ∙ seen;
        each = λ k lt. all.each k (omega (arith, lt, seen));
      }

  pub key_ends : (t : KeyedText) (numbers : List ℕ) (ends : List Ends) →
      t ≡ keyed_text shape span →
      numbers ≡ t.numbers →
      AreEnds numbers (length numbers) ends →
      AreKeyEnds t ends
  key_ends t numbers ends is are all =
      subst (λ (x : KeyedText). AreKeyEnds x ends) (sym is)
      (text_ends ends (subst (λ (xs : List ℕ). AreEnds xs (length xs) ends)
      (are ∙ ap (λ (x : KeyedText). x.numbers) is) all))

-- the first and the last call of a key stand in the text
pub ends_in : (t : KeyedText) (sites : List ShapeSite) (k : ℕ) (ends : Ends) →
    AreCalls t sites →
    IsEnds t.numbers (length sites) k ends →
    AreEndsIn t sites ends
ends_in t sites k ends calls are = record {
  first_in = are.first_in;
  last_in = are.last_in;
  from_first = calls.from ends.first are.first_in;
  from_last = calls.from ends.last are.last_in;
}
