-- Shapes that are checked when they are made.
use Rattle.std.specs.Prelude.{ℕ, ◌+◌, ◌<◌, List, length}
use Rattle.layout_rounds.specs.declared.shape.ShapeSection.{ShapeSection}
use Rattle.layout_rounds.specs.declared.shape.ShapeSite.{ShapeSite}
use Rattle.layout_rounds.specs.Shapes.{site_of, IsInText, IsNotAfter}

-- call i goes from an instruction to another, and the next one, if there is one, stands no earlier
pub record IsSoundSite (sections : List ShapeSection) (sites : List ShapeSite) (i : ℕ) : Type 0 where
  pub from : IsInText sections (site_of sites i).section (site_of sites i).offset
  pub to : IsInText sections (site_of sites i).to_section (site_of sites i).to_offset
  pub ordered : i + 1 < length sites → IsNotAfter (site_of sites i) (site_of sites (i + 1))
