-- Which members of libraries a link takes: the least choice that has, for each name that is asked for and that no object defines, the
-- first member that defines it. (That the first one is taken, wherever the name is asked for, is a rule of this linker.)
use Rattle.std.specs.Prelude.{ℕ, zero, suc, ◌≡◌, ◌<◌, Bool, true, false, not, ◌||◌, ◌&&◌, nat_lt, List, [], ◌∷◌, ◌++◌, length, Option, Some, None, if◌then◌else◌}
use Rattle.std.specs.List.{list_any, slice_index_or}
use Rattle.std.specs.Str.{bytes_eq}
use Rattle.elf64_records.specs.First.{when, first_from}
use Rattle.elf64_records.specs.FileHeader.{e_shnum}
use Rattle.elf64_records.specs.Sections.{is_kept}
use Rattle.elf64_records.specs.Symbols.{symbol_count}
use Rattle.object_set.specs.Files.{file_at}
use Rattle.object_set.specs.Symbols.{name_of, is_global, is_weak, is_absolute, is_common, is_undefined, is_toc_base, index_of}

-- symbol j of a file defines its name: other files see it, and it is a number, a common or in a section that a link keeps
unfoldable pub provides_at : List ℕ → ℕ → Bool
provides_at b j =
    (is_global b j || is_weak b j)
    && (is_absolute b j || is_common b j || (nat_lt (index_of b j) (e_shnum b) && is_kept b (index_of b j)))

-- symbol j of a file asks for its name: it is GLOBAL and undefined, and isn't the base of the table of contents
unfoldable pub asks_at : List ℕ → ℕ → Bool
asks_at b j = is_global b j && is_undefined b j && not (is_toc_base b j)

-- the name of symbol j of a file, where it passes a test
abbrev pub name_where : (ℕ → Bool) → List ℕ → ℕ → List (List ℕ)
name_where passes b j = if passes j then name_of b j ∷ [] else []

-- the names of those of the first n symbols that do
abbrev pub names_where : (ℕ → Bool) → List ℕ → ℕ → List (List ℕ)
names_where passes b zero = []
names_where passes b (suc n) = names_where passes b n ++ name_where passes b n

-- the names that a file defines, and those that it asks for
abbrev pub provided_names : List ℕ → List (List ℕ)
provided_names b = names_where (provides_at b) b (symbol_count b)

abbrev pub asked_names : List ℕ → List (List ℕ)
asked_names b = names_where (asks_at b) b (symbol_count b)

-- whether a name is one of them
abbrev pub provides : List ℕ → List ℕ → Bool
provides b name = list_any (bytes_eq name) (provided_names b)

abbrev pub asks : List ℕ → List ℕ → Bool
asks b name = list_any (bytes_eq name) (asked_names b)

-- what a link is given: objects, candidates, and the name of its entry
pub record Pool : Type 0 where
  pub objects : List (List ℕ)
  pub candidates : List (List ℕ)
  pub entry : List ℕ

-- candidate c, where it defines a name
unfoldable pub giver_at : Pool → List ℕ → ℕ → Option ℕ
giver_at pool name c = when (provides (file_at pool.candidates c) name) c

-- the first candidate that defines a name which no object defines
abbrev pub giver : Pool → List ℕ → Option ℕ
giver pool name =
    if list_any (λ b. provides b name) pool.objects then None else first_from (giver_at pool name) 0 (length pool.candidates)

-- a set of candidates, as a test of their numbers, has the one that a name needs
abbrev pub Has : Pool → (ℕ → Bool) → List ℕ → Type 0
Has pool F name = (c : ℕ) → giver pool name ≡ Some c → F c ≡ true

-- it has all that the names need for which a file asks
abbrev pub HasAsked : Pool → (ℕ → Bool) → List ℕ → Type 0
HasAsked pool F b = (name : List ℕ) → asks b name ≡ true → Has pool F name

-- a set is closed: it has what is needed for the entry, for the objects and for its own candidates
pub record IsClosed (pool : Pool) (F : ℕ → Bool) : Type 0 where
  pub entry : Has pool F pool.entry
  pub objects : (k : ℕ) → k < length pool.objects → HasAsked pool F (file_at pool.objects k)
  pub members : (c : ℕ) → c < length pool.candidates → F c ≡ true → HasAsked pool F (file_at pool.candidates c)

-- the set is closed, and contained in every closed set
pub record IsChoice (pool : Pool) (F : ℕ → Bool) : Type 0 where
  pub closed : IsClosed pool F
  pub least : (G : ℕ → Bool) → IsClosed pool G → (c : ℕ) → F c ≡ true → G c ≡ true

-- the set for which a list of flags stands
abbrev pub flagged : List Bool → ℕ → Bool
flagged flags c = slice_index_or flags c false
