-- Commons while they are numbered.
use Rattle.std.specs.Prelude.{◌≡◌, ℕ, List, [], ◌∷◌, length, Option, Some, None}
use Rattle.symbol_table.specs.declared.candidates.CommonSize.{CommonSize}
use Rattle.symbol_table.specs.declared.candidates.Candidates.{Candidates}
use Rattle.symbol_table.specs.declared.commons.Commons.{Commons}
use Rattle.symbol_table.specs.Candidates.{commons_before}
use Rattle.object_set.specs.inside.Rows.{IsRow}

-- the common of a name, where it stands for one
abbrev pub common_list : Option CommonSize → List CommonSize
common_list None = []
common_list (Some common) = common ∷ []

-- how many commons stand before each of the first n names
abbrev pub AreCommonNumbers : List Candidates → ℕ → List ℕ → Type 0
AreCommonNumbers candidates n numbers = IsRow (λ i k. k ≡ length (commons_before candidates i)) n numbers

-- the commons of names, and how many stand before each name
pub record AreCommons (candidates : List Candidates) (commons : Commons) : Type 0 where
  pub sizes : commons.sizes.items ≡ commons_before candidates (length candidates)
  pub numbers : AreCommonNumbers candidates (length candidates) commons.numbers.items
