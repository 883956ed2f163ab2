-- A text that is laid out for a far set, and the looks at the keys outside the set.
use Rattle.std.specs.Prelude.{◌≡◌, ℕ, ◌<◌, List, Bool, true, false}
use Rattle.layout_rounds.specs.declared.near.Way.{Way}
use Rattle.layout_rounds.specs.declared.settling.Looked.{Looked}
use Rattle.layout_rounds.specs.declared.shape.Shape.{Shape}
use Rattle.layout_rounds.specs.FarSets.{member}
use Rattle.layout_rounds.specs.Layout.{PlacedText, key_count, IsLayout}
use Rattle.layout_rounds.specs.Reach.{reaches_near}
use Rattle.layout_rounds.specs.Shapes.{KeyedText, keyed_text}
use Rattle.layout_rounds.specs.inside.Rounds.{IsRound}
use Rattle.layout_rounds.specs.inside.Ways.{AreWays}

module _ (shape : Shape) (span : ℕ) where
  -- the keyed text of a shape, and the ways of its keys
  pub record HasWays (t : KeyedText) (ways : List Way) : Type 0 where
    pub keyed_is : t ≡ keyed_text shape span
    pub ways_are : AreWays (keyed_text shape span) shape.sites.items span ways

  -- whether key k reaches near in the layout of a set
  abbrev pub near_in : List Bool → ℕ → Bool
  near_in far k = reaches_near (keyed_text shape span) shape.sites.items span (member far) k

  -- the places are those of an older set, in whose layout each key outside the set reaches near
  pub record WereNear (far : List Bool) (places : PlacedText) : Type 0 where
    pub old : List Bool
    pub places_are : IsLayout (keyed_text shape span) (member old) places
    pub rest : (k : ℕ) → k < key_count (keyed_text shape span) → member far k ≡ false → near_in old k ≡ true

  -- the places are those of the set before the round, in whose layout the keys outside the set were looked at
  pub record IsLooked (old new : List Bool) (looked : Looked) : Type 0 where
    pub places_are : IsLayout (keyed_text shape span) (member old) looked.places
    pub round_is : IsRound (near_in old) old new (key_count (keyed_text shape span)) looked.round
