-- Where headers begin, and what they tell.
use Rattle.std.specs.Prelude.{ℕ, zero, suc, ◌+◌, ◌<◌, ◌≤◌, ◌≡◌, length, List, [], ◌∷◌, ◌++◌, Option, Some, None}
use Rattle.std.specs.Option.{option_map}
use Rattle.elf64_records.specs.declared.headers.TheConstants.{FILE_LIMIT}
use Rattle.ppc_archive.specs.declared.header.HeaderSpot.{HeaderSpot}
use Rattle.ppc_archive.specs.declared.library_member.Member.{Member}
use Rattle.ppc_archive.specs.Archive.{Spot, MemberFacts, spot, member_at, archive_fault, members_of}

-- a spot, as its facts
abbrev pub spot_of : HeaderSpot → Spot
spot_of s = record { at = s.at; names = option_map (λ table. table.now) s.names }

-- a member, as its facts
abbrev pub facts_of : Member → MemberFacts
facts_of m = record { name = m.name.now; bytes = m.bytes.now }

-- the member of a header, if it has one
abbrev pub facts_if : Option Member → List MemberFacts
facts_if None = []
facts_if (Some m) = facts_of m ∷ []

-- the members of so many headers from header k on
abbrev pub members_left : List ℕ → ℕ → ℕ → List MemberFacts
members_left b k zero = []
members_left b k (suc count) = member_at b (spot b k) ++ members_left b (k + 1) count

-- headers that begin before the end of a file are below it by their number
pub record IsSpot (b : List ℕ) (k : ℕ) (s : HeaderSpot) : Type 0 where
  pub is : spot_of s ≡ spot b k
  pub below : k < s.at

-- the members of a library that is whole
pub record AreMembers (b : List ℕ) (count : ℕ) : Type 0 where
  pub whole : archive_fault b ≡ None
  pub short : length b ≤ FILE_LIMIT
  pub count_is : count ≡ length (members_of b)

-- a place among the headers of a library that is whole
pub record IsPlace (b : List ℕ) (k : ℕ) (s : HeaderSpot) : Type 0 where
  pub whole : archive_fault b ≡ None
  pub short : length b ≤ FILE_LIMIT
  pub spot_is : IsSpot b k s
