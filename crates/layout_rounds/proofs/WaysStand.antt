-- The way of a key stands for all its calls.
use Rattle.std.proofs.Common.{ℕ, zero, suc, ◌≡◌, ◌<◌, ◌≤◌, ◌+◌, inl, inr, Bool, true, false, List, [], ◌∷◌, ◌++◌, length}
use Rattle.std.proofs.Common.{slice_index, ap, sym, ◌∙◌, refl, subst, arith, add-one, ◌&&◌, ◌||◌, not, ◌==◌}
use Rattle.std.specs.Cmp.{both_ways}
use Rattle.std.proofs.lemmas.Grind.{common_steps}
use Rattle.std.proofs.lemmas.Bool.{false≢true}
use Rattle.std.proofs.lemmas.Bool.Decides.{nat_tests}
use Rattle.stub_kinds.specs.declared.class.Class.{Class}
use Rattle.stub_kinds.specs.declared.class.Class.TheVariants.{Same, Switch, Save, NearN, EntrySave, EntryBare, EntryN}
use Rattle.layout_rounds.specs.declared.shape.ShapeSite.{ShapeSite}
use Rattle.layout_rounds.specs.declared.grouping.Spot.{Spot}
use Rattle.layout_rounds.specs.declared.near.Ends.{Ends}
use Rattle.layout_rounds.specs.declared.near.Way.{Way}
use Rattle.layout_rounds.specs.Shapes.{KeyedText, site_of, IsInText, IsNotAfter}
use Rattle.layout_rounds.specs.Layout.{Point, section_count, key_count, key_at, group_count, group_at, offset_at, padded, group_size}
use Rattle.layout_rounds.specs.Layout.{unit, group_start, address, point_in, area_start, IsKeyed}
use Rattle.layout_rounds.specs.Reach.{reaches, spans, calls_reach, area_reaches, reaches_by, reaches_near}
use Rattle.layout_rounds.specs.inside.Calls.{AreCalls}
use Rattle.layout_rounds.specs.inside.Placed.{AreGroupStarts}
use Rattle.layout_rounds.specs.inside.Ways.{point_of, spot_in, spot_from, calls_way, area_way, way_by, way_spans, way_at}
use Rattle.layout_rounds.specs.inside.Ways.{IsEnds, IsPoint, IsWay, AreWays, IsPlaced, AreWaysPlaced, address_by, way_reaches}
use Rattle.layout_rounds.proofs.Aligned.{aligned_most}
use Rattle.layout_rounds.proofs.Spots.{spot_after}
use Rattle.layout_rounds.proofs.Bounds.{counted, at_group, at_offset, offset_small, key_counted, size_most_upto, unit_small, start_small}
use Rattle.layout_rounds.proofs.Shrinking.{reaches_parts, reaches_from}
use Rattle.layout_rounds.proofs.Cases.{same_or_other, below_or_last, upto_or_next, split}

-- ---- calls stand in order

not_after_trans : (a b c : ShapeSite) → IsNotAfter a b → IsNotAfter b c → IsNotAfter a c
not_after_trans a b c p q = elim p [
  | inl below ↦ elim q [
    | inl later ↦ inl (omega (arith, below, later))
    | inr same ↦ inl (omega (arith, below, same.0))
  ]
  | inr same ↦ elim q [
    | inl later ↦ inl (omega (arith, same.0, later))
    | inr too ↦ inr (same.0 ∙ too.0, omega (arith, same.1, too.1))
  ]
]

module _ (sites : List ShapeSite)
    (ordered : (i : ℕ) → i + 1 < length sites → IsNotAfter (site_of sites i) (site_of sites (i + 1))) where
  not_after_itself : (i : ℕ) → IsNotAfter (site_of sites i) (site_of sites i)
  not_after_itself i = inr (refl, omega arith)

  pub sites_ordered : (i j : ℕ) → i ≤ j → j < length sites → IsNotAfter (site_of sites i) (site_of sites j)
  sites_ordered i zero le lt = let e : i ≡ 0 = omega (arith, le) in rw e (not_after_itself 0)
  sites_ordered i (suc j) le lt = elim (upto_or_next i j le) [
    | inl before ↦ not_after_trans (site_of sites i) (site_of sites j) (site_of sites (suc j))
        (sites_ordered i j before (omega (arith, lt)))
        (subst (λ (n : ℕ). IsNotAfter (site_of sites j) (site_of sites n)) (add-one j)
        (ordered j (omega (arith, lt))))
    | inr same ↦ rw same (not_after_itself (suc j))
  ]

-- ---- what lies between two points that reach reaches too

between : (span low a high to : ℕ) →
    low ≤ a →
    a ≤ high →
    reaches span low to ≡ true →
    reaches span high to ≡ true →
    reaches span a to ≡ true
between span low a high to above below p q =
    reaches_from span a to
    (let parts = reaches_parts span high to q in omega (arith, parts.0, below))
    (let parts = reaches_parts span low to p in omega (arith, parts.1, above))

and_parts : (a b : Bool) → a && b ≡ true → (a ≡ true) × (b ≡ true)
and_parts false b h = absurd (false≢true h)
and_parts true b h = (refl, h)

and_from : (a b : Bool) → a ≡ true → b ≡ true → a && b ≡ true
and_from a b p q = rw p q

taken : (m k : ℕ) (b : Bool) → m ≡ k → not (m == k) || b ≡ true → b ≡ true
taken m k b is h = grind (arith, nat_tests, is, h)

skipped : (m k : ℕ) (b : Bool) → (m ≡ k → b ≡ true) → not (m == k) || b ≡ true
skipped m k b h = elim (same_or_other m k) [
  | inl is ↦ let reached = h is in grind (arith, nat_tests, is, reached)
  | inr other ↦ grind (arith, nat_tests, other)
]

module _ (t : KeyedText) (sites : List ShapeSite) (span : ℕ) (F : ℕ → Bool) (k : ℕ) (to : Point) where
  abbrev call_spans : ℕ → Bool
  call_spans j = spans t span F (point_in t (site_of sites j).section (site_of sites j).offset) to

  pub calls_give : (n j : ℕ) →
      j < n →
      slice_index t.numbers j ≡ k →
      calls_reach t sites span F k to n ≡ true →
      spans t span F (point_in t (site_of sites j).section (site_of sites j).offset) to ≡ true
  calls_give zero j lt is h = absurd (omega (arith, lt))
  calls_give (suc n) j lt is h =
      let parts = and_parts (calls_reach t sites span F k to n) (not (slice_index t.numbers n == k) || call_spans n) h in
      elim (below_or_last j n lt) [
        | inl before ↦ calls_give n j before is parts.0
        | inr same ↦ subst (λ (i : ℕ). call_spans i ≡ true) (sym same)
            (taken (slice_index t.numbers n) k (call_spans n) (ap (slice_index t.numbers) (sym same) ∙ is) parts.1)
      ]

  calls_from : (n : ℕ) →
      ((j : ℕ) → j < n → slice_index t.numbers j ≡ k → call_spans j ≡ true) →
      calls_reach t sites span F k to n ≡ true
  calls_from zero each = refl
  calls_from (suc n) each =
      and_from (calls_reach t sites span F k to n) (not (slice_index t.numbers n == k) || call_spans n)
      (calls_from n (λ j lt is. each j (omega (arith, lt)) is))
      (skipped (slice_index t.numbers n) k (call_spans n) (λ is. each n (omega arith) is))

module _ (t : KeyedText) (sites : List ShapeSite) (calls : AreCalls t sites)
    (ordered : (i : ℕ) → i + 1 < length sites → IsNotAfter (site_of sites i) (site_of sites (i + 1))) where
  point_before : (i j : ℕ) →
      i ≤ j →
      j < length sites →
      group_at t (site_of sites i).section ≡ group_at t (site_of sites j).section →
      offset_at t (site_of sites i).section + (site_of sites i).offset
      ≤ offset_at t (site_of sites j).section + (site_of sites j).offset
  point_before i j le lt same =
      let a = site_of sites i in
      let b = site_of sites j in
      let from_a = calls.from i (omega (arith, le, lt)) in
      let from_b = calls.from j lt in
      elim (sites_ordered sites ordered i j le lt) [
        | inl earlier ↦
            let after = spot_after t.sections t.reach calls.keyed.sections a.section b.section earlier from_b.section_in
            (sym (at_group t calls.keyed a.section from_a.section_in) ∙ same ∙
            at_group t calls.keyed b.section from_b.section_in) in
            omega (
              arith,
              after,
              at_offset t calls.keyed a.section from_a.section_in,
              at_offset t calls.keyed b.section from_b.section_in,
              from_a.within,
            )
        | inr there ↦ let e = ap (offset_at t) there.0 in omega (arith, e, there.1)
      ]

  group_is : (k j : ℕ) →
      j < length sites →
      slice_index t.numbers j ≡ k →
      group_at t (site_of sites j).section ≡ (key_at t k).group
  group_is k j lt is = sym (calls.group j lt) ∙ ap (λ (n : ℕ). (key_at t n).group) is

  module _ (span : ℕ) (F : ℕ → Bool) where
    -- in one group the order of calls is that of their addresses
    address_before : (k i j : ℕ) →
        i ≤ j →
        j < length sites →
        slice_index t.numbers i ≡ k →
        slice_index t.numbers j ≡ k →
        address t F (point_in t (site_of sites i).section (site_of sites i).offset)
        ≤ address t F (point_in t (site_of sites j).section (site_of sites j).offset)
    address_before k i j le lt is_i is_j =
        let same = group_is k i (omega (arith, le, lt)) is_i ∙ sym (group_is k j lt is_j) in
        let start = ap (group_start t F) same in
        let offset = point_before i j le lt same in
        omega (arith, start, offset)

    -- of a key's calls the first and the last stand for all
    ends_stand : (k : ℕ) (ends : Ends) (to : Point) →
        IsEnds t.numbers (length sites) k ends →
        calls_reach t sites span F k to (length sites)
        ≡ (spans t span F (point_in t (site_of sites ends.first).section (site_of sites ends.first).offset) to
        && spans t span F (point_in t (site_of sites ends.last).section (site_of sites ends.last).offset) to)
    ends_stand k ends to are =
        let low = point_in t (site_of sites ends.first).section (site_of sites ends.first).offset in
        let high = point_in t (site_of sites ends.last).section (site_of sites ends.last).offset in
        both_ways (calls_reach t sites span F k to (length sites)) (spans t span F low to && spans t span F high to)
        (λ h. and_from (spans t span F low to) (spans t span F high to)
        (calls_give t sites span F k to (length sites) ends.first are.first_in are.first_is h)
        (calls_give t sites span F k to (length sites) ends.last are.last_in are.last_is h))
        (λ h. let parts = and_parts (spans t span F low to) (spans t span F high to) h in
        calls_from t sites span F k to (length sites) (λ j lt is.
        between span (address t F low) (address t F (point_in t (site_of sites j).section (site_of sites j).offset))
        (address t F high) (address t F to)
        (address_before k ends.first j (are.above j lt is) lt are.first_is is)
        (address_before k j ends.last (are.below j lt is) are.last_in is are.last_is)
        parts.0 parts.1))

    still : 4 ≤ span → (a : ℕ) → reaches span a a ≡ true
    still some a = reaches_from span a a (omega arith) (omega (arith, some))

    area_stands : (g : ℕ) (to : Point) →
        area_reaches t span F g to
        ≡ (spans t span F (area_start t g) to && spans t span F (record { group = g + 1; offset = 0 }) to)
    area_stands g to =
        ap (λ (n : ℕ). spans t span F (area_start t g) to && spans t span F (record { group = n; offset = 0 }) to)
        (sym (add-one g))

    stands_by : 4 ≤ span → (class : Class) (k : ℕ) (ends : Ends) (to : Spot) →
        IsEnds t.numbers (length sites) k ends →
        reaches_by t sites span F class k (point_of to)
        ≡ way_spans t span F (way_by t sites class (key_at t k).group ends to)
    stands_by some Same k ends to are = ends_stand k ends (point_of to) are
    stands_by some NearN k ends to are = ends_stand k ends (point_of to) are
    stands_by some Switch k ends to are = area_stands (key_at t k).group (point_of to)
    stands_by some Save k ends to are = area_stands (key_at t k).group (point_of to)
    stands_by some EntrySave k ends to are = sym (and_from _ _ (still some _) (still some _))
    stands_by some EntryBare k ends to are = sym (and_from _ _ (still some _) (still some _))
    stands_by some EntryN k ends to are = sym (and_from _ _ (still some _) (still some _))

  -- ---- every point of a way has a small address

  text_point : (section offset : ℕ) → IsInText t.sections section offset → IsPoint t (spot_in t section offset)
  text_point section offset here = record {
    group_in = let within = counted t calls.keyed section here.section_in in omega (arith, within);
    small = omega (
      arith,
      offset_small t calls.keyed section here.section_in,
      here.within,
      here.section_in,
      calls.keyed.sections.few,
    );
  }

  start_point : (g : ℕ) → g < group_count t → IsPoint t (record { group = g; offset = padded t (group_size t g) })
  start_point g lt = record {
    group_in = omega (arith, lt);
    small =
        let most = size_most_upto t calls.keyed g (section_count t) (omega arith) in
        let up = aligned_most (group_size t g) (unit t) in
        omega (arith, most, up, unit_small t calls.keyed, calls.keyed.sections.few);
  }

  end_point : (g : ℕ) → g < group_count t → IsPoint t (record { group = g + 1; offset = 0 })
  end_point g lt = record { group_in = omega (arith, lt); small = omega arith }

  -- the points of the way of a key
  pub record ArePoints (way : Way) : Type 0 where
    pub low_is : IsPoint t way.low
    pub high_is : IsPoint t way.high
    pub to_is : IsPoint t way.to

  module _ (k : ℕ) (ends : Ends) (lt : k < key_count t) (are : IsEnds t.numbers (length sites) k ends) where
    key_to : IsPoint t (spot_in t (key_at t k).section (key_at t k).offset)
    key_to = text_point (key_at t k).section (key_at t k).offset (calls.keyed.keys k lt).place

    call_point : (i : ℕ) → i < length sites → IsPoint t (spot_from t sites i)
    call_point i within = text_point (site_of sites i).section (site_of sites i).offset (calls.from i within)

    calls_points : (to : Spot) → IsPoint t to → ArePoints (calls_way t sites ends to)
    calls_points to here = record {
      low_is = call_point ends.first are.first_in;
      high_is = call_point ends.last are.last_in;
      to_is = here;
    }

    area_points : (to : Spot) → IsPoint t to → ArePoints (area_way t sites (key_at t k).group to)
    area_points to here = record {
      low_is = start_point (key_at t k).group (key_counted t calls.keyed k lt);
      high_is = end_point (key_at t k).group (key_counted t calls.keyed k lt);
      to_is = here;
    }

    points_by : (class : Class) (to : Spot) →
        IsPoint t to →
        ArePoints (way_by t sites class (key_at t k).group ends to)
    points_by Same to here = calls_points to here
    points_by NearN to here = calls_points to here
    points_by Switch to here = area_points to here
    points_by Save to here = area_points to here
    points_by EntrySave to here = record { low_is = here; high_is = here; to_is = here }
    points_by EntryBare to here = record { low_is = here; high_is = here; to_is = here }
    points_by EntryN to here = record { low_is = here; high_is = here; to_is = here }

    pub way_is : (span : ℕ) →
        4 ≤ span →
        IsWay t sites span k (way_by t sites (key_at t k).class (key_at t k).group ends
        (spot_in t (key_at t k).section (key_at t k).offset))
    way_is span some =
        let to = spot_in t (key_at t k).section (key_at t k).offset in
        let points = points_by (key_at t k).class to key_to in
        record {
          low_is = points.low_is;
          high_is = points.high_is;
          to_is = points.to_is;
          stands = λ F. stands_by span F some (key_at t k).class k ends to are;
        }

-- ---- the ways of the first keys

-- the ways of the first n keys
pub record AreWaysUpto (t : KeyedText) (sites : List ShapeSite) (span n : ℕ) (ways : List Way) : Type 0 where
  pub count : length ways ≡ n
  pub each : (k : ℕ) → k < n → IsWay t sites span k (way_at ways k)

ways_long : (ways : List Way) (way : Way) → length (ways ++ way ∷ []) ≡ length ways + 1
ways_long ways way = grind (arith, common_steps)

ways_before : (ways : List Way) (way : Way) (k : ℕ) → k < length ways → way_at (ways ++ way ∷ []) k ≡ way_at ways k
ways_before ways way k lt = grind (arith, common_steps)

ways_last : (ways : List Way) (way : Way) (n : ℕ) → length ways ≡ n → way_at (ways ++ way ∷ []) n ≡ way
ways_last ways way n long = grind (arith, common_steps)

pub ways_more : (t : KeyedText) (sites : List ShapeSite) (span n : ℕ) (ways new : List Way) (way : Way) →
    AreWaysUpto t sites span n ways →
    IsWay t sites span n way →
    new ≡ ways ++ way ∷ [] →
    AreWaysUpto t sites span (n + 1) new
ways_more t sites span n ways new way so_far here more =
    subst (λ (xs : List Way). AreWaysUpto t sites span (n + 1) xs) (sym more) (record {
      count = omega (arith, ways_long ways way, so_far.count);
      each = λ k lt. elim (split k n lt) [
        | inl before ↦ subst (λ (w : Way). IsWay t sites span k w)
            (sym (ways_before ways way k (omega (arith, before, so_far.count)))) (so_far.each k before)
        | inr same ↦ subst (λ (j : ℕ). IsWay t sites span j (way_at (ways ++ way ∷ []) j)) (sym same)
            (subst (λ (w : Way). IsWay t sites span n w) (sym (ways_last ways way n so_far.count)) here)
      ];
    })

-- ---- by the starts of groups in a layout

module _ (t : KeyedText) (keyed : IsKeyed t) (F : ℕ → Bool) (starts : List ℕ)
    (are : AreGroupStarts t F (group_count t + 1) starts) where
  point_placed : (spot : Spot) → IsPoint t spot → IsPlaced starts spot
  point_placed spot here = record {
    group_in = omega (arith, here.group_in, are.count);
    small =
        let start = are.each spot.group (omega (arith, here.group_in)) in
        let most = start_small t keyed F spot.group here.group_in in
        omega (arith, start, most, here.small);
  }

  point_address : (spot : Spot) → IsPoint t spot → address_by starts spot ≡ address t F (point_of spot)
  point_address spot here = let start = are.each spot.group (omega (arith, here.group_in)) in omega (arith, start)

  way_near : (span : ℕ) (way : Way) →
      IsPoint t way.low →
      IsPoint t way.high →
      IsPoint t way.to →
      way_reaches span starts way ≡ way_spans t span F way
  way_near span way low high to =
      ap (λ (a : ℕ). reaches span a (address_by starts way.to)
      && reaches span (address_by starts way.high) (address_by starts way.to)) (point_address way.low low)
      ∙ ap (λ (a : ℕ). reaches span (address t F (point_of way.low)) (address_by starts way.to)
      && reaches span a (address_by starts way.to)) (point_address way.high high)
      ∙ ap (λ (a : ℕ). reaches span (address t F (point_of way.low)) a
      && reaches span (address t F (point_of way.high)) a) (point_address way.to to)

  module _ (sites : List ShapeSite) (span : ℕ) (ways : List Way) (stand : AreWays t sites span ways) where
    pub ways_placed : AreWaysPlaced starts ways
    ways_placed k lt =
        let way = stand.each k (omega (arith, lt, stand.count)) in
        record {
          low_is = point_placed (way_at ways k).low way.low_is;
          high_is = point_placed (way_at ways k).high way.high_is;
          to_is = point_placed (way_at ways k).to way.to_is;
        }

    -- the way of a key reaches by the starts where the key reaches near
    pub ways_near : (k : ℕ) → k < key_count t → way_reaches span starts (way_at ways k) ≡ reaches_near t sites span F k
    ways_near k lt =
        let way = stand.each k lt in
        way_near span (way_at ways k) way.low_is way.high_is way.to_is ∙ sym (way.stands F)
