-- Tables of numbers: a row has one for each number of a file, and rows have one row for each file.
use Rattle.std.specs.Prelude.{ℕ, ◌≡◌, ◌<◌, List, [], length, slice_index}
use Rattle.std.specs.List.{slice_index_or}

-- a row of n numbers, of which each stands in a relation to its place
pub record IsRow (P : ℕ → ℕ → Type 0) (n : ℕ) (row : List ℕ) : Type 0 where
  pub count : length row ≡ n
  pub each : (i : ℕ) → i < n → P i (slice_index row i)

-- n rows, of which each is as long as its file has numbers
pub record AreRows (P : ℕ → ℕ → ℕ → Type 0) (width : ℕ → ℕ) (n : ℕ) (rows : List (List ℕ)) : Type 0 where
  pub count : length rows ≡ n
  pub each : (file : ℕ) → file < n → IsRow (P file) (width file) (slice_index_or rows file [])
