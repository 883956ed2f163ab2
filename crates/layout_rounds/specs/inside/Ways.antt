-- The ways of keys: two points of each that branch to its place, which stand for all its calls.
use Rattle.std.specs.Prelude.{◌≡◌, ℕ, zero, suc, ◌+◌, ◌<◌, ◌≤◌, ◌^◌, List, ◌∷◌, [], ◌++◌, length, Bool, ◌&&◌, max, nat_lt}
use Rattle.std.specs.Prelude.{slice_index, slice_set, if◌then◌else◌}
use Rattle.std.specs.List.{slice_index_or}
use Rattle.stub_kinds.specs.declared.class.Class.{Class}
use Rattle.stub_kinds.specs.declared.class.Class.TheVariants.{Same, Switch, Save, NearN, EntrySave, EntryBare, EntryN}
use Rattle.layout_rounds.specs.declared.shape.ShapeSite.{ShapeSite}
use Rattle.layout_rounds.specs.declared.grouping.Spot.{Spot}
use Rattle.layout_rounds.specs.declared.near.Ends.{Ends}
use Rattle.layout_rounds.specs.declared.near.Way.{Way}
use Rattle.layout_rounds.specs.Shapes.{KeyedText, no_spot, site_of, IsInText}
use Rattle.layout_rounds.specs.Layout.{Point, key_count, group_count, group_at, offset_at, padded, group_size}
use Rattle.layout_rounds.specs.Reach.{reaches, spans, reaches_near}

-- ---- the first and the last call of each key

-- how many keys the first n calls have: one more than the greatest number
abbrev pub keys_seen : List ℕ → ℕ → ℕ
keys_seen numbers zero = 0
keys_seen numbers (suc n) = max (keys_seen numbers n) (slice_index numbers n + 1)

-- keys are numbered in the order of their first calls
abbrev pub AreInOrder : List ℕ → Type 0
AreInOrder numbers = (i : ℕ) → i < length numbers → slice_index numbers i ≤ keys_seen numbers i

abbrev pub no_ends : Ends
no_ends = record { first = 0; last = 0 }

abbrev pub ends_at : List Ends → ℕ → Ends
ends_at ends k = slice_index_or ends k no_ends

-- of the first n calls, these are the first and the last with key k
pub record IsEnds (numbers : List ℕ) (n k : ℕ) (ends : Ends) : Type 0 where
  pub first_in : ends.first < n
  pub first_is : slice_index numbers ends.first ≡ k
  pub last_in : ends.last < n
  pub last_is : slice_index numbers ends.last ≡ k
  pub above : (j : ℕ) → j < n → slice_index numbers j ≡ k → ends.first ≤ j
  pub below : (j : ℕ) → j < n → slice_index numbers j ≡ k → j ≤ ends.last

-- those of all keys
pub record AreEnds (numbers : List ℕ) (n : ℕ) (ends : List Ends) : Type 0 where
  pub count : length ends ≡ keys_seen numbers n
  pub each : (k : ℕ) → k < keys_seen numbers n → IsEnds numbers n k (ends_at ends k)

-- the ends after call i, of key k: one that was seen, or the next
abbrev pub ends_with : List Ends → ℕ → ℕ → List Ends
ends_with ends k i =
    if nat_lt k (length ends) then slice_set ends k (record (ends_at ends k) { last = i })
    else ends ++ record { first = i; last = i } ∷ []

-- both are calls, from instructions of the text
pub record AreEndsIn (t : KeyedText) (sites : List ShapeSite) (ends : Ends) : Type 0 where
  pub first_in : ends.first < length sites
  pub last_in : ends.last < length sites
  pub from_first : IsInText t.sections (site_of sites ends.first).section (site_of sites ends.first).offset
  pub from_last : IsInText t.sections (site_of sites ends.last).section (site_of sites ends.last).offset

-- ---- two points that stand for a key

abbrev pub no_way : Way
no_way = record { low = no_spot; high = no_spot; to = no_spot }

abbrev pub way_at : List Way → ℕ → Way
way_at ways k = slice_index_or ways k no_way

abbrev pub point_of : Spot → Point
point_of spot = record { group = spot.group; offset = spot.offset }

-- an offset of a section
abbrev pub spot_in : KeyedText → ℕ → ℕ → Spot
spot_in t s offset = record { group = group_at t s; offset = offset_at t s + offset }

module _ (t : KeyedText) (sites : List ShapeSite) where
  -- the point of call i
  abbrev pub spot_from : ℕ → Spot
  spot_from i = let site = site_of sites i in spot_in t site.section site.offset

  -- from the first and the last call; from both ends of the stub area; from the place itself, which is always near
  abbrev pub calls_way : Ends → Spot → Way
  calls_way ends to = record { low = spot_from ends.first; high = spot_from ends.last; to = to }

  abbrev pub area_way : ℕ → Spot → Way
  area_way g to = record {
    low = record { group = g; offset = padded t (group_size t g) };
    high = record { group = g + 1; offset = 0 };
    to = to;
  }

  abbrev pub still_way : Spot → Way
  still_way to = record { low = to; high = to; to = to }

  -- the way of a key of a class
  abbrev pub way_by : Class → ℕ → Ends → Spot → Way
  way_by Same g ends to = calls_way ends to
  way_by NearN g ends to = calls_way ends to
  way_by Switch g ends to = area_way g to
  way_by Save g ends to = area_way g to
  way_by EntrySave g ends to = still_way to
  way_by EntryBare g ends to = still_way to
  way_by EntryN g ends to = still_way to

-- both points reach the place in the layout of F
abbrev pub way_spans : KeyedText → ℕ → (ℕ → Bool) → Way → Bool
way_spans t span F way =
    spans t span F (point_of way.low) (point_of way.to) && spans t span F (point_of way.high) (point_of way.to)

-- a point to which each layout gives an address
pub record IsPoint (t : KeyedText) (spot : Spot) : Type 0 where
  pub group_in : spot.group ≤ group_count t
  pub small : spot.offset < 2 ^ 61

-- in every layout key k reaches near exactly where both points reach its place
pub record IsWay (t : KeyedText) (sites : List ShapeSite) (span k : ℕ) (way : Way) : Type 0 where
  pub low_is : IsPoint t way.low
  pub high_is : IsPoint t way.high
  pub to_is : IsPoint t way.to
  pub stands : (F : ℕ → Bool) → reaches_near t sites span F k ≡ way_spans t span F way

pub record AreWays (t : KeyedText) (sites : List ShapeSite) (span : ℕ) (ways : List Way) : Type 0 where
  pub count : length ways ≡ key_count t
  pub each : (k : ℕ) → k < key_count t → IsWay t sites span k (way_at ways k)

-- ---- the same by the starts of groups

abbrev pub address_by : List ℕ → Spot → ℕ
address_by starts spot = slice_index starts spot.group + spot.offset

-- the starts have the group of a point, and its address is small
pub record IsPlaced (starts : List ℕ) (spot : Spot) : Type 0 where
  pub group_in : spot.group < length starts
  pub small : slice_index starts spot.group + spot.offset < 2 ^ 62

pub record IsWayPlaced (starts : List ℕ) (way : Way) : Type 0 where
  pub low_is : IsPlaced starts way.low
  pub high_is : IsPlaced starts way.high
  pub to_is : IsPlaced starts way.to

abbrev pub AreWaysPlaced : List ℕ → List Way → Type 0
AreWaysPlaced starts ways = (k : ℕ) → k < length ways → IsWayPlaced starts (way_at ways k)

abbrev pub way_reaches : ℕ → List ℕ → Way → Bool
way_reaches span starts way =
    reaches span (address_by starts way.low) (address_by starts way.to)
    && reaches span (address_by starts way.high) (address_by starts way.to)
