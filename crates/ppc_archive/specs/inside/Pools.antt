-- What a link is given, and what is chosen for it so far.
use Rattle.std.specs.Prelude.{ℕ, ◌≡◌, ◌<◌, ◌≤◌, true, Bool, List, length, slice_index}
use Rattle.object_set.specs.Files.{file_at}
use Rattle.ppc_archive.specs.declared.choice.ReadFiles.{ReadFiles}
use Rattle.ppc_archive.specs.Choice.{Pool, giver, Has, HasAsked, IsClosed}
use Rattle.ppc_archive.specs.inside.Givers.{ProviderMap, candidate_in, among}

-- the files that were read, and the name of the entry
abbrev pub pool_of : ReadFiles → List ℕ → Pool
pool_of files entry = record { objects = files.objects.items; candidates = files.candidates.items; entry = entry }

-- a map has the candidates that names need
abbrev pub AreGivers : Pool → ProviderMap → Type 0
AreGivers pool providers = (name : List ℕ) → candidate_in providers name ≡ giver pool name

-- no more is chosen than each closed set has
abbrev pub IsNeeded : Pool → List ℕ → Type 0
IsNeeded pool order = (G : ℕ → Bool) → IsClosed pool G → (c : ℕ) → among order c ≡ true → G c ≡ true

-- what the entry and the first so many objects need is chosen, and no more
pub record HasRootsBelow (pool : Pool) (order : List ℕ) (n : ℕ) : Type 0 where
  pub entry : Has pool (among order) pool.entry
  pub objects : (k : ℕ) → k < n → HasAsked pool (among order) (file_at pool.objects k)
  pub needed : IsNeeded pool order

-- what the entry and all objects need
abbrev pub HasRoots : Pool → List ℕ → Type 0
HasRoots pool order = HasRootsBelow pool order (length pool.objects)

-- what the first so many chosen candidates need is chosen too
pub record HasFirst (pool : Pool) (order : List ℕ) (next : ℕ) : Type 0 where
  pub within : next ≤ length order
  pub roots : HasRoots pool order
  pub met : (k : ℕ) → k < next → HasAsked pool (among order) (file_at pool.candidates (slice_index order k))
