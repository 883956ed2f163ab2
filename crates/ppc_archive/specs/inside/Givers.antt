-- The first file that defines each name, as a map has it.
use Rattle.std.specs.Prelude.{ℕ, ◌≡◌, ◌<◌, ◌+◌, Bool, nat_eq, not, List, [], ◌∷◌, ◌++◌, length, Option, Some, None, if◌then◌else◌, count_by}
use Rattle.std.specs.List.{list_any}
use Rattle.std.specs.Borrow.{Bor}
use Rattle.std.specs.Str.{bytes_eq}
use Rattle.std.specs.declared.hash.FoldHasher.{FoldHasher}
use Rattle.std.specs.declared.hash.BuildHasherDefault.{BuildHasherDefault}
use Rattle.std.specs.HashMap.{HashMap, get_by}
use Rattle.elf64_records.specs.First.{when}
use Rattle.object_set.specs.Files.{file_at}
use Rattle.ppc_archive.specs.declared.names.Provider.{Provider}
use Rattle.ppc_archive.specs.declared.names.Provider.TheVariants.{Object, Candidate}
use Rattle.ppc_archive.specs.Choice.{provides, flagged}

-- a map of the first files
abbrev pub ProviderMap : Type 0
ProviderMap = HashMap (Bor (List ℕ)) Provider (BuildHasherDefault FoldHasher)

-- what it has for a name
abbrev pub provider_in : ProviderMap → List ℕ → Option Provider
provider_in providers name = get_by (λ key. bytes_eq name key.now) providers

-- the candidate that it has for a name
abbrev pub candidate_of : Option Provider → Option ℕ
candidate_of None = None
candidate_of (Some Object) = None
candidate_of (Some (Candidate c)) = Some c

abbrev pub candidate_in : ProviderMap → List ℕ → Option ℕ
candidate_in providers name = candidate_of (provider_in providers name)

-- candidate c, where it defines a name
abbrev pub provider_at : List (List ℕ) → List ℕ → ℕ → Option Provider
provider_at candidates name c = when (provides (file_at candidates c) name) (Candidate c)

-- candidates in the order in which they were chosen, of so many
pub record Chosen : Type 0 where
  pub total : ℕ
  pub order : List ℕ

abbrev pub chosen : ℕ → List ℕ → Chosen
chosen total order = record { total = total; order = order }

-- whether a candidate is among those
abbrev pub among : List ℕ → ℕ → Bool
among order c = list_any (nat_eq c) order

-- the order with one that a name needs, where it is new
abbrev pub taken : List ℕ → Option ℕ → List ℕ
taken order None = order
taken order (Some c) = if among order c then order else order ++ c ∷ []

-- the order with all that names need
abbrev pub taken_all : (List ℕ → Option ℕ) → List ℕ → List (List ℕ) → List ℕ
taken_all given order [] = order
taken_all given order (name ∷ names) = taken_all given (taken order (given name)) names

-- flags stand for an order
pub record AreFlags (flags : List Bool) (order : List ℕ) : Type 0 where
  pub same : (c : ℕ) → flagged flags c ≡ among order c
  pub rest : count_by not flags + length order ≡ length flags

-- all candidates of a map are below a number
abbrev pub AreBelow : ProviderMap → ℕ → Type 0
AreBelow providers total = (name : List ℕ) (c : ℕ) → candidate_in providers name ≡ Some c → c < total
