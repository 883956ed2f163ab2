-- Which keys reach their places near in the layout of a set of far keys, and the least closed set.
use Rattle.std.specs.Prelude.{◌≡◌, ℕ, zero, suc, ◌+◌, ◌<◌, List, length, Bool, true, false, ◌&&◌, ◌||◌, not, ◌==◌, nat_le, slice_index}
use Rattle.stub_kinds.specs.declared.class.Class.{Class}
use Rattle.stub_kinds.specs.declared.class.Class.TheVariants.{Same, Switch, Save, NearN, EntrySave, EntryBare, EntryN}
use Rattle.layout_rounds.specs.declared.shape.Shape.{Shape}
use Rattle.layout_rounds.specs.declared.shape.ShapeSite.{ShapeSite}
use Rattle.layout_rounds.specs.FarSets.{◌⊆◌}
use Rattle.layout_rounds.specs.Shapes.{KeyedText, keyed_text, site_of}
use Rattle.layout_rounds.specs.Layout.{Point, key_count, key_at, address, point_in, area_start, area_end}

-- a branch at an address reaches another: the signed distance is at least -span and at most span - 4
abbrev pub reaches : ℕ → ℕ → ℕ → Bool
reaches span at to = nat_le at (to + span) && nat_le (to + 4) (at + span)

-- it reaches from one place of text to another in the layout of F
abbrev pub spans : KeyedText → ℕ → (ℕ → Bool) → Point → Point → Bool
spans t span F from to = reaches span (address t F from) (address t F to)

-- both ends of the stub area of a group reach a place
abbrev pub area_reaches : KeyedText → ℕ → (ℕ → Bool) → ℕ → Point → Bool
area_reaches t span F g to = spans t span F (area_start t g) to && spans t span F (area_end g) to

module _ (t : KeyedText) (sites : List ShapeSite) (span : ℕ) (F : ℕ → Bool) where
  -- those of the first n calls that have key k reach a place
  abbrev pub calls_reach : ℕ → Point → ℕ → Bool
  calls_reach k to zero = true
  calls_reach k to (suc n) =
      let site = site_of sites n in
      calls_reach k to n
      && (not (slice_index t.numbers n == k) || spans t span F (point_in t site.section site.offset) to)

  -- The calls of a near key of class Same or NearN branch to its place themselves, so each of them must reach it; the stub of class
  -- Switch or Save branches there, from anywhere in its area, so both ends of the area must. The other classes have one form, without
  -- a branch.
  abbrev pub reaches_by : Class → ℕ → Point → Bool
  reaches_by Same k to = calls_reach k to (length sites)
  reaches_by NearN k to = calls_reach k to (length sites)
  reaches_by Switch k to = area_reaches t span F (key_at t k).group to
  reaches_by Save k to = area_reaches t span F (key_at t k).group to
  reaches_by EntrySave k to = true
  reaches_by EntryBare k to = true
  reaches_by EntryN k to = true

  -- key k reaches near
  abbrev pub reaches_near : ℕ → Bool
  reaches_near k = reaches_by (key_at t k).class k (point_in t (key_at t k).section (key_at t k).offset)

  -- each key outside F reaches near in the layout of F
  abbrev pub IsClosed : Type 0
  IsClosed = (k : ℕ) → k < key_count t → F k ≡ false → reaches_near k ≡ true

-- the set is closed, and contained in every closed set
pub record IsLeastClosed (t : KeyedText) (sites : List ShapeSite) (span : ℕ) (F : ℕ → Bool) : Type 0 where
  pub closed : IsClosed t sites span F
  pub least : (G : ℕ → Bool) → IsClosed t sites span G → F ⊆ G

-- the far set of a shape
abbrev pub IsFarSet : Shape → ℕ → (ℕ → Bool) → Type 0
IsFarSet shape span F = IsLeastClosed (keyed_text shape span) shape.sites.items span F
