-- Files that are read before the choice, and replaced after it.
use Rattle.std.specs.Prelude.{ℕ, ◌≡◌, ◌≤◌, ⊤, true, List, [], ◌∷◌, length, map, Option, Some, None, Result, Ok, Err}
use Rattle.std.specs.List.{flat_map}
use Rattle.elf64_records.specs.declared.headers.TheConstants.{FILE_LIMIT}
use Rattle.ppc_archive.specs.declared.fault.ChooseFault.{ChooseFault}
use Rattle.ppc_archive.specs.declared.fault.ChooseFault.TheVariants.{Refused, Memory}
use Rattle.ppc_archive.specs.Archive.{MemberFacts, is_library, archive_fault}
use Rattle.ppc_archive.specs.Expand.{NamedFile, NamedRefusal, named_refusal, candidates_in, objects_in}

-- a fault tells of this refusal, but for want of memory
abbrev pub Tells : ChooseFault → NamedRefusal → Type 0
Tells Memory refusal = ⊤
Tells (Refused name r) refusal = named_refusal name r ≡ refusal

-- the answer is exactly this refusal, but for want of memory
abbrev pub FaultIs : {A : Type 0} → Result A ChooseFault → Option NamedRefusal → Type 0
FaultIs (Ok a) refusal = refusal ≡ None
FaultIs (Err Memory) refusal = ⊤
FaultIs (Err (Refused name r)) refusal = refusal ≡ Some (named_refusal name r)

-- the bytes of the candidates of files, and of their objects
abbrev pub bytes_of : List MemberFacts → List (List ℕ)
bytes_of files = map (λ m. m.bytes) files

abbrev pub candidate_bytes : List NamedFile → List (List ℕ)
candidate_bytes files = bytes_of (flat_map candidates_in files)

abbrev pub object_bytes : List NamedFile → List (List ℕ)
object_bytes files = bytes_of (flat_map objects_in files)

-- a library among files is whole
abbrev pub IsWhole : NamedFile → Type 0
IsWhole file = is_library file.bytes ≡ true → (archive_fault file.bytes ≡ None) × (length file.bytes ≤ FILE_LIMIT)

abbrev pub AreWhole : List NamedFile → Type 0
AreWhole [] = ⊤
AreWhole (file ∷ files) = IsWhole file × AreWhole files
