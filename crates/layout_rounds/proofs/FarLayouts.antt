-- What holds while the far set grows, and when it does no more.
use Rattle.std.proofs.Common.{ℕ, zero, suc, ◌≡◌, ◌≢◌, ◌<◌, ◌≤◌, ◌+◌, ◌*◌, inl, inr, Bool, true, false, List, [], ◌∷◌, length}
use Rattle.std.proofs.Common.{ap, sym, ◌∙◌, subst, arith}
use Rattle.std.specs.Cmp.{both_ways}
use Rattle.std.proofs.Math.Path.{fun_ext}
use Rattle.std.proofs.lemmas.Bool.{false≢true}
use Rattle.layout_rounds.specs.declared.shape.Shape.{Shape}
use Rattle.layout_rounds.specs.declared.shape.ShapeSite.{ShapeSite}
use Rattle.layout_rounds.specs.declared.near.Way.{Way}
use Rattle.layout_rounds.specs.declared.rounds.Round.{Round}
use Rattle.layout_rounds.specs.declared.settling.Looked.{Looked}
use Rattle.layout_rounds.specs.FarSets.{member, count, ◌⊆◌}
use Rattle.layout_rounds.specs.Shapes.{KeyedText, keyed_text, IsSound, IsSpan}
use Rattle.layout_rounds.specs.Settled.{IsFarLayout}
use Rattle.layout_rounds.specs.Layout.{PlacedText, key_count, group_count, IsLayout}
use Rattle.layout_rounds.specs.Reach.{reaches_near, IsClosed, IsLeastClosed}
use Rattle.layout_rounds.specs.inside.Calls.{AreCalls}
use Rattle.layout_rounds.specs.inside.Placed.{AreGroupStarts}
use Rattle.layout_rounds.specs.inside.Ways.{way_at, way_reaches, AreWays, AreWaysPlaced}
use Rattle.layout_rounds.specs.inside.Rounds.{IsRound}
use Rattle.layout_rounds.specs.inside.Looks.{HasWays, WereNear, IsLooked}
use Rattle.layout_rounds.proofs.Called.{are_calls}
use Rattle.layout_rounds.proofs.Counting.{count_most}
use Rattle.layout_rounds.proofs.KeyNumbers.{known}
use Rattle.layout_rounds.proofs.KeysUpto.{keys_few}
use Rattle.layout_rounds.proofs.Shrinking.{near_shrinks}
use Rattle.layout_rounds.proofs.WaysStand.{ways_placed, ways_near}

in_range : (xs : List Bool) (k : ℕ) → member xs k ≡ true → k < length xs
in_range [] k h = absurd (false≢true h)
in_range (x ∷ xs) zero h = omega arith
in_range (x ∷ xs) (suc k) h = omega (arith, in_range xs k h)

module _ (shape : Shape) (span : ℕ) where
  abbrev pub text : KeyedText
  text = keyed_text shape span

  -- every closed set has each key of a set
  abbrev pub LiesWithin : List Bool → Type 0
  LiesWithin far = (G : ℕ → Bool) → IsClosed text shape.sites.items span G → member far ⊆ G

  -- how many keys of the text a set has
  abbrev pub far_keys : List Bool → ℕ
  far_keys far = count (member far) (key_count text)

  -- the set lies in every closed set; each placement was followed by a new key, and had at most 2^32 looks
  pub record IsGrowing (far : List Bool) (first steps looks : ℕ) : Type 0 where
    pub long : length far ≡ key_count text
    pub within : LiesWithin far
    pub ticks : steps ≤ first + far_keys far
    pub few : looks ≤ far_keys far * 0x100000000

  -- the same, with the places of an older set, in whose layout each key outside the set reaches near
  pub record IsSettling (far : List Bool) (places : PlacedText) (round : Round) (first steps looks : ℕ) : Type 0 where
    pub near : WereNear shape span far places
    pub long : length far ≡ key_count text
    pub within : LiesWithin far
    pub counted : far_keys far ≡ far_keys near.old + round.added
    pub none : round.added ≡ 0 → far ≡ near.old
    pub ticks : steps ≤ first + far_keys near.old + 1
    pub few : looks ≤ far_keys near.old * 0x100000000 + 0x100000000

-- ---- there is one far set

-- two far sets of a text are the same
pub same_set : (t : KeyedText) (sites : List ShapeSite) (span : ℕ) (F G : ℕ → Bool) →
    IsLeastClosed t sites span F →
    IsLeastClosed t sites span G →
    F ≡ G
same_set t sites span F G f g = fun_ext (λ k. both_ways (F k) (G k) (f.least G g.closed k) (g.least F f.closed k))

-- ---- ways by the starts of a layout

module _ (shape : Shape) (span : ℕ) (sound : IsSound shape) (ways : List Way)
    (stand : AreWays (keyed_text shape span) shape.sites.items span ways) (F : ℕ → Bool) (places : PlacedText)
    (laid : IsLayout (keyed_text shape span) F places) (starts : List ℕ) (starts_are : starts ≡ places.starts) where
  abbrev t : KeyedText
  t = keyed_text shape span

  abbrev sites : List ShapeSite
  sites = shape.sites.items

  calls : AreCalls t sites
  calls = are_calls shape span sound

  layout_starts : AreGroupStarts t F (group_count t + 1) places.starts
  layout_starts = record { count = laid.start_count; each = λ g lt. laid.starts g (omega (arith, lt)) }

  pub given_placed : AreWaysPlaced starts ways
  given_placed = subst (λ (xs : List ℕ). AreWaysPlaced xs ways) (sym starts_are)
      (ways_placed t calls.keyed F places.starts layout_starts sites span ways stand)

  pub given_near : (k : ℕ) → k < key_count t → way_reaches span starts (way_at ways k) ≡ reaches_near t sites span F k
  given_near k lt =
      ap (λ (xs : List ℕ). way_reaches span xs (way_at ways k)) starts_are
      ∙ ways_near t calls.keyed F places.starts layout_starts sites span ways stand k lt

  -- a round by the starts is one by the layout
  near_round : (old new : List Bool) (round : Round) →
      length old ≡ key_count t →
      IsRound (λ k. way_reaches span starts (way_at ways k)) old new (length ways) round →
      IsRound (reaches_near t sites span F) old new (key_count t) round
  near_round old new round long done =
      let all = subst (λ (n : ℕ). IsRound (λ k. way_reaches span starts (way_at ways k)) old new n round) stand.count
      done in
      record {
        long = all.long;
        untouched = all.untouched;
        adds = λ j now was. sym (given_near j
            (let in_set = in_range new j now in omega (arith, in_set, all.long, long))) ∙ all.adds j now was;
        rest = λ j lt out. sym (given_near j lt) ∙ all.rest j lt out;
        counted = all.counted;
        few = all.few;
        most = all.most;
        none = all.none;
      }

-- ---- the set stays within every closed set

module _ (t : KeyedText) (sites : List ShapeSite) (span : ℕ) (calls : AreCalls t sites) (some : 4 ≤ span) where
  -- a key that doesn't reach lies in every closed set that the set lies in
  pub unreached_within : (F : ℕ → Bool) (k : ℕ) →
      k < key_count t →
      reaches_near t sites span F k ≡ false →
      (G : ℕ → Bool) → IsClosed t sites span G → F ⊆ G → G k ≡ true
  unreached_within F k lt far G closed sub = elim (known (G k)) [
    | inl here ↦ here
    | inr out ↦ absurd (false≢true
        (sym far ∙ near_shrinks t sites span F G calls some sub k lt (closed k lt out)))
  ]

-- there are no more keys than calls, and so no more far keys, and fewer than 2^32
key_most : (shape : Shape) (span : ℕ) → key_count (keyed_text shape span) ≤ length shape.sites.items
key_most shape span = keys_few (keyed_text shape span).spots shape.sites.items (length shape.sites.items)

pub few_far : (shape : Shape) (span : ℕ) (far : List Bool) → far_keys shape span far ≤ length shape.sites.items
few_far shape span far = omega (arith, count_most (member far) (key_count (keyed_text shape span)), key_most shape span)

pub few_keys : (shape : Shape) (span : ℕ) → IsSound shape → key_count (keyed_text shape span) < 0x100000000
few_keys shape span sound = (are_calls shape span sound).keyed.few_keys

-- ---- what is read of a shape

module _ (shape : Shape) (span : ℕ) where
  -- its text, by another name
  layout_at : (keyed : KeyedText) (F : ℕ → Bool) (places : PlacedText) →
      keyed ≡ keyed_text shape span →
      IsLayout keyed F places →
      IsLayout (keyed_text shape span) F places
  layout_at keyed F places is laid = subst (λ (x : KeyedText). IsLayout x F places) is laid

  pub count_at : (keyed : KeyedText) → keyed ≡ keyed_text shape span → key_count keyed ≡ key_count (keyed_text shape span)
  count_at keyed is = ap (λ (x : KeyedText). key_count x) is

  pub has_ways : (keyed : KeyedText) (ways given : List Way) →
      keyed ≡ keyed_text shape span →
      AreWays keyed shape.sites.items span ways →
      given ≡ ways →
      HasWays shape span keyed given
  has_ways keyed ways given is stand same = record {
    keyed_is = is;
    ways_are = subst (λ (ws : List Way). AreWays (keyed_text shape span) shape.sites.items span ws) (sym same)
        (subst (λ (x : KeyedText). AreWays x shape.sites.items span ways) is stand);
  }

  far_layout : (keyed : KeyedText) (far : List Bool) (places : PlacedText) →
      keyed ≡ keyed_text shape span →
      length far ≡ key_count (keyed_text shape span) →
      IsLeastClosed (keyed_text shape span) shape.sites.items span (member far) →
      IsLayout (keyed_text shape span) (member far) places →
      IsFarLayout shape span keyed far places
  far_layout keyed far places is long least laid = record {
    keyed_is = is;
    far_count = long ∙ sym (count_at keyed is);
    far_is = least;
    places_are = subst (λ (x : KeyedText). IsLayout x (member far) places) (sym is) laid;
  }

-- a set is placed, and looked at
module _ (shape : Shape) (span : ℕ) (sound : IsSound shape) (keyed : KeyedText) (ways : List Way) (has : HasWays shape span keyed ways)
    (far : List Bool) (places : PlacedText) (laid : IsLayout keyed (member far) places) (starts : List ℕ)
    (starts_are : starts ≡ places.starts) where
  laid_here : IsLayout (keyed_text shape span) (member far) places
  laid_here = layout_at shape span keyed (member far) places has.keyed_is laid

  pub all_placed : AreWaysPlaced starts ways
  all_placed = given_placed shape span sound ways has.ways_are (member far) places laid_here starts starts_are

  pub looked_by : (new : List Bool) (round : Round) →
      length far ≡ key_count (keyed_text shape span) →
      IsRound (λ k. way_reaches span starts (way_at ways k)) far new (length ways) round →
      IsLooked shape span far new (record { places = places; round = round })
  looked_by new round long done = record {
    places_are = laid_here;
    round_is = near_round shape span sound ways has.ways_are (member far) places laid_here starts starts_are far new round long done;
  }

module _ (shape : Shape) (span : ℕ) (sound : IsSound shape) (is_span : IsSpan span) where
  abbrev whole : KeyedText
  whole = keyed_text shape span

  abbrev all_sites : List ShapeSite
  all_sites = shape.sites.items

  all_calls : AreCalls whole all_sites
  all_calls = are_calls shape span sound

  some : 4 ≤ span
  some = omega (arith, is_span.least)

  -- no set of keys is there at first
  pub growing_start : (far : List Bool) (first : ℕ) →
      length far ≡ key_count whole →
      ((k : ℕ) → member far k ≡ false) →
      IsGrowing shape span far first first 0
  growing_start far first long empty = record {
    long = long;
    within = λ G closed k now. absurd (false≢true (sym (empty k) ∙ now));
    ticks = omega arith;
    few = omega arith;
  }

  -- where each key outside a set reaches near in its own layout, and every closed set has its keys, it is the far set
  settled_layout : (keyed : KeyedText) (far : List Bool) (places : PlacedText) →
      keyed ≡ whole →
      (near : WereNear shape span far places) →
      length far ≡ key_count whole →
      LiesWithin shape span far →
      far ≡ near.old →
      IsFarLayout shape span keyed far places
  settled_layout keyed far places keyed_is near long within same =
      far_layout shape span keyed far places keyed_is long
      (record {
        closed = λ k lt out. ap (λ (xs : List Bool). reaches_near whole all_sites span (member xs) k) same ∙ near.rest k lt out;
        least = within;
      })
      (subst (λ (xs : List Bool). IsLayout whole (member xs) places) (sym same) near.places_are)

  module _ (old new : List Bool) (looked : Looked) (is : IsLooked shape span old new looked)
      (long : length old ≡ key_count whole) (within : LiesWithin shape span old) where
    round_within : LiesWithin shape span new
    round_within G closed k now = elim (known (member old k)) [
      | inl was ↦ within G closed k was
      | inr out ↦ unreached_within whole all_sites span all_calls some (member old) k
          (let in_set = in_range new k now in omega (arith, in_set, is.round_is.long, long))
          (is.round_is.adds k now out) G closed (within G closed)
    ]

    abbrev near_now : WereNear shape span new looked.places
    near_now = record { old = old; places_are = is.places_are; rest = is.round_is.rest }

    -- where none was added the set is the far set, and the places are those of its layout
    pub round_done : (keyed : KeyedText) → keyed ≡ whole → looked.round.added ≡ 0 → IsFarLayout shape span keyed new looked.places
    round_done keyed keyed_is none =
        settled_layout keyed new looked.places keyed_is near_now (is.round_is.long ∙ long) round_within (is.round_is.none none)

    -- one more round of later ones
    pub settling_more : (first steps looks : ℕ) →
        steps ≤ first + far_keys shape span old + 1 →
        looks ≤ far_keys shape span old * 0x100000000 + 0x100000000 →
        IsSettling shape span new looked.places looked.round first steps looks
    settling_more first steps looks ticks few = record {
      near = near_now;
      long = is.round_is.long ∙ long;
      within = round_within;
      counted = is.round_is.counted;
      none = is.round_is.none;
      ticks = ticks;
      few = few;
    }

    -- and one of all keys
    pub growing_more : (first steps looks now_steps now_looks : ℕ) →
        IsGrowing shape span old first steps looks →
        now_steps ≡ steps + 1 →
        now_looks ≡ looks + looked.round.looks →
        looked.round.added ≢ 0 →
        IsGrowing shape span new first now_steps now_looks
    growing_more first steps looks now_steps now_looks so_far ticks looks_are added = record {
      long = is.round_is.long ∙ long;
      within = round_within;
      ticks = omega (arith, so_far.ticks, ticks, is.round_is.counted, added);
      few = omega (arith, so_far.few, looks_are, is.round_is.counted, is.round_is.most, added, few_keys shape span sound);
    }

  -- where nothing was added last, the places are those of the far set
  pub settling_done : (keyed : KeyedText) (far : List Bool) (places : PlacedText) (round : Round) (first steps looks : ℕ) →
      keyed ≡ whole →
      IsSettling shape span far places round first steps looks →
      round.added ≡ 0 →
      IsFarLayout shape span keyed far places
  settling_done keyed far places round first steps looks keyed_is so_far none =
      settled_layout keyed far places keyed_is so_far.near so_far.long so_far.within (so_far.none none)
