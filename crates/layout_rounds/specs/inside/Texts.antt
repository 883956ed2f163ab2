-- What a keyed text holds.
use Rattle.std.specs.Prelude.{◌≡◌, ℕ, List}
use Rattle.layout_rounds.specs.declared.shape.Shape.{Shape}
use Rattle.layout_rounds.specs.declared.grouping.Spot.{Spot}
use Rattle.layout_rounds.specs.Shapes.{KeyedText, keys_of, numbers_of, keyed_parts}
use Rattle.layout_rounds.specs.Layout.{unit, IsKeyed}

-- it was made of a sound shape, and this is its unit
pub record IsKeyedWith (t : KeyedText) (u : ℕ) : Type 0 where
  pub keyed : IsKeyed t
  pub unit_is : u ≡ unit t

-- the text of a shape whose sections stand at these spots
abbrev pub text_at : Shape → ℕ → List Spot → KeyedText
text_at shape reach spots =
    let sites = shape.sites.items in
    let keys = keys_of spots sites in
    keyed_parts shape.start reach shape.sections.items spots keys (numbers_of spots keys sites)
