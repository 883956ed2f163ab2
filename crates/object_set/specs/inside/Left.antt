-- What is left of a walk from a place on.
use Rattle.std.specs.Prelude.{ℕ, zero, suc, ◌+◌, List, [], ◌∷◌, ◌++◌}
use Rattle.object_set.specs.declared.places.RecordId.{RecordId}
use Rattle.object_set.specs.Files.{file_at}
use Rattle.object_set.specs.Walks.{Walk, record_id}

module _ {X : Type 0} (w : Walk X) (set : List (List ℕ)) where
  -- the items at so many numbers of a file from n on
  abbrev pub numbers_left : ℕ → ℕ → ℕ → List X
  numbers_left file n zero = []
  numbers_left file n (suc count) = w.items file (file_at set file) n ++ numbers_left file (n + 1) count

  -- those of so many files from one on
  abbrev pub files_left : ℕ → ℕ → List X
  files_left file zero = []
  files_left file (suc count) = numbers_left file 0 (w.count (file_at set file)) ++ files_left (file + 1) count

-- so many records of section i of a file from record k on
abbrev pub records_left : ℕ → List ℕ → ℕ → ℕ → ℕ → List RecordId
records_left file b i k zero = []
records_left file b i k (suc count) = record_id file b i k ∷ records_left file b i (k + 1) count
