-- A key that reaches near under the larger set does under the smaller.
use Rattle.std.proofs.Common.{ℕ, zero, suc, ◌≡◌, ◌<◌, ◌≤◌, ◌+◌, ◌⊎◌, inl, inr, Bool, true, false, List, length, refl, ap}
use Rattle.std.proofs.Common.{arith, tests, rules, ◌&&◌, ◌||◌, not, ◌==◌, slice_index}
use Rattle.std.proofs.lemmas.Bool.{false≢true}
use Rattle.stub_kinds.specs.declared.class.Class.{Class}
use Rattle.stub_kinds.specs.declared.class.Class.TheVariants.{Same, Switch, Save, NearN, EntrySave, EntryBare, EntryN}
use Rattle.layout_rounds.specs.declared.shape.ShapeSite.{ShapeSite}
use Rattle.layout_rounds.specs.FarSets.{◌⊆◌}
use Rattle.layout_rounds.specs.Shapes.{KeyedText, site_of}
use Rattle.layout_rounds.specs.Layout.{Point, key_count, key_at, group_size, padded, group_start, address, point_in, area_start, area_end}
use Rattle.layout_rounds.specs.Reach.{reaches, spans, calls_reach, area_reaches, reaches_by, reaches_near}
use Rattle.layout_rounds.specs.inside.Calls.{AreCalls}
use Rattle.layout_rounds.proofs.Growth.{between_grows, start_after, point_within}

order : (s t : ℕ) → (s < t) ⊎ ((s ≡ t) ⊎ (t < s))
order s t = grind arith

pub reaches_parts : (span a t : ℕ) → reaches span a t ≡ true → (a ≤ t + span) × (t + 4 ≤ a + span)
reaches_parts span a t h = grind (arith, tests)

pub reaches_from : (span a t : ℕ) → a ≤ t + span → t + 4 ≤ a + span → reaches span a t ≡ true
reaches_from span a t back forth = search (rules, tests)

-- both of two tests
pub both : (a b c d : Bool) → (a ≡ true → c ≡ true) → (b ≡ true → d ≡ true) → a && b ≡ true → c && d ≡ true
both false b c d f g h = absurd (false≢true h)
both true b c d f g h = rw (f refl) (g h)

-- or the first of two
pub unless : (a b c : Bool) → (b ≡ true → c ≡ true) → a || b ≡ true → a || c ≡ true
unless true b c f h = refl
unless false b c f h = f h

module _ (t : KeyedText) (sites : List ShapeSite) (span : ℕ) (F G : ℕ → Bool) (calls : AreCalls t sites) (some : 4 ≤ span)
    (sub : F ⊆ G) where
  in_order : (p q : Point) →
      p.group ≡ q.group →
      spans t span G p q ≡ true →
      spans t span F p q ≡ true
  in_order p q same h =
      let f : group_start t F p.group ≡ group_start t F q.group = ap (group_start t F) same in
      let g : group_start t G p.group ≡ group_start t G q.group = ap (group_start t G) same in
      let parts = reaches_parts span (address t G p) (address t G q) h in
      reaches_from span (address t F p) (address t F q) (omega (arith, f, g, parts.0)) (omega (arith, f, g, parts.1))

  spans_shrink : (p q : Point) →
      p.offset ≤ padded t (group_size t p.group) →
      q.offset ≤ padded t (group_size t q.group) →
      spans t span G p q ≡ true →
      spans t span F p q ≡ true
  spans_shrink p q in_p in_q h =
      let parts = reaches_parts span (address t G p) (address t G q) h in
      elim (order p.group q.group) [
        | inl before ↦ reaches_from span (address t F p) (address t F q)
            (let after = start_after t calls.keyed F p.group q.group before in omega (arith, after, in_p))
            (let between = between_grows t calls.keyed F G sub p.group q.group (omega (arith, before)) in
            omega (arith, parts.1, between))
        | inr (inl same) ↦ in_order p q same h
        | inr (inr behind) ↦ reaches_from span (address t F p) (address t F q)
            (let between = between_grows t calls.keyed F G sub q.group p.group (omega (arith, behind)) in
            omega (arith, parts.0, between))
            (let after = start_after t calls.keyed F q.group p.group behind in omega (arith, after, in_q, some))
      ]

  module _ (to : Point) (in_to : to.offset ≤ padded t (group_size t to.group)) where
    calls_shrink : (k n : ℕ) →
        n ≤ length sites →
        calls_reach t sites span G k to n ≡ true →
        calls_reach t sites span F k to n ≡ true
    calls_shrink k zero le h = refl
    calls_shrink k (suc n) le h =
        let site = site_of sites n in
        let from = point_in t site.section site.offset in
        both (calls_reach t sites span G k to n)
        (not (slice_index t.numbers n == k) || spans t span G from to)
        (calls_reach t sites span F k to n)
        (not (slice_index t.numbers n == k) || spans t span F from to)
        (calls_shrink k n (omega (arith, le)))
        (unless (not (slice_index t.numbers n == k)) (spans t span G from to) (spans t span F from to)
        (spans_shrink from to (point_within t calls.keyed site.section site.offset (calls.from n (omega (arith, le))))
        in_to))
        h

    area_shrinks : (g : ℕ) →
        area_reaches t span G g to ≡ true →
        area_reaches t span F g to ≡ true
    area_shrinks g h =
        both (spans t span G (area_start t g) to) (spans t span G (area_end g) to)
        (spans t span F (area_start t g) to) (spans t span F (area_end g) to)
        (spans_shrink (area_start t g) to (omega arith) in_to)
        (spans_shrink (area_end g) to (omega arith) in_to)
        h

    by_shrinks : (class : Class) (k : ℕ) →
        reaches_by t sites span G class k to ≡ true →
        reaches_by t sites span F class k to ≡ true
    by_shrinks Same k h = calls_shrink k (length sites) (omega arith) h
    by_shrinks NearN k h = calls_shrink k (length sites) (omega arith) h
    by_shrinks Switch k h = area_shrinks (key_at t k).group h
    by_shrinks Save k h = area_shrinks (key_at t k).group h
    by_shrinks EntrySave k h = refl
    by_shrinks EntryBare k h = refl
    by_shrinks EntryN k h = refl

  -- a key that reaches near under the larger set does under the smaller
  pub near_shrinks : (k : ℕ) →
      k < key_count t →
      reaches_near t sites span G k ≡ true →
      reaches_near t sites span F k ≡ true
  near_shrinks k lt h =
      let key = key_at t k in
      by_shrinks (point_in t key.section key.offset)
      (point_within t calls.keyed key.section key.offset (calls.keyed.keys k lt).place) key.class k h
