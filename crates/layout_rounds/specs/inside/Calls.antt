-- The calls of a keyed text.
use Rattle.std.specs.Prelude.{◌≡◌, ℕ, ◌<◌, List, length, slice_index}
use Rattle.layout_rounds.specs.declared.shape.ShapeSite.{ShapeSite}
use Rattle.layout_rounds.specs.Shapes.{KeyedText, site_of, IsInText}
use Rattle.layout_rounds.specs.Layout.{key_count, key_at, group_at, IsKeyed}

-- the text is keyed, and each of these calls stands in it, and in the stub group of its key
pub record AreCalls (t : KeyedText) (sites : List ShapeSite) : Type 0 where
  pub keyed : IsKeyed t
  pub count : length t.numbers ≡ length sites
  pub from : (i : ℕ) → i < length sites → IsInText t.sections (site_of sites i).section (site_of sites i).offset
  pub numbered : (i : ℕ) → i < length sites → slice_index t.numbers i < key_count t
  pub group : (i : ℕ) → i < length sites →
      (key_at t (slice_index t.numbers i)).group ≡ group_at t (site_of sites i).section
