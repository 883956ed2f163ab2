-- The sorts of a file's sections while they are kept.
use Rattle.std.specs.Prelude.{◌≡◌, ◌<◌, ℕ, List, length}
use Rattle.std.specs.List.{slice_index_or}
use Rattle.object_set.specs.declared.sort.Sort.{Sort}
use Rattle.object_set.specs.Sections.{sort_of}

-- the sorts of the first n sections of a file
pub record AreSorts (b : List ℕ) (n : ℕ) (sorts : List Sort) : Type 0 where
  pub count : length sorts ≡ n
  pub each : (i : ℕ) (d : Sort) → i < n → slice_index_or sorts i d ≡ sort_of b i
