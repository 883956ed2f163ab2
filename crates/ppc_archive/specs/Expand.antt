-- The files of a link once libraries are replaced by their chosen members, and why there are none.
use Rattle.std.specs.Prelude.{ℕ, ◌+◌, ◌≡◌, ◌⊎◌, Bool, nat_lt, ◌==◌, List, [], ◌∷◌, ◌++◌, length, map, filter, codes, Option, Some, None, Result, Ok, Err, if◌then◌else◌, string_bytes}
use Rattle.std.specs.List.{flat_map}
use Rattle.std.specs.Option.{option_map}
use Rattle.ppc_bytes.specs.Elf.{has_magic}
use Rattle.elf64_records.specs.First.{◌orelse◌, when, first_in}
use Rattle.object_set.specs.declared.files.FileBytes.{FileBytes}
use Rattle.object_set.specs.declared.refusal.Refusal.{Refusal}
use Rattle.object_set.specs.declared.refusal.Refusal.TheVariants.{BadArchive, NoEntry, TooManyFiles}
use Rattle.object_set.specs.Refusals.{file_refusal, fault_refusal, length_refusal}
use Rattle.ppc_archive.specs.Archive.{MemberFacts, is_library, archive_fault, members_of}
use Rattle.ppc_archive.specs.Choice.{Pool, IsChoice}

-- a file: its name and its bytes
abbrev pub NamedFile : Type 0
NamedFile = MemberFacts

abbrev pub named_file : FileBytes → NamedFile
named_file file = record { name = string_bytes file.name; bytes = file.bytes.items }

abbrev pub named_files : List FileBytes → List NamedFile
named_files files = map named_file files

-- a member that begins as an ELF file does may be chosen
abbrev pub is_candidate : MemberFacts → Bool
is_candidate m = has_magic m.bytes

-- the candidates of a file: those of its members, where it is a library
abbrev pub candidates_in : NamedFile → List MemberFacts
candidates_in file = if is_library file.bytes then filter is_candidate (members_of file.bytes) else []

-- a file that is no library is an object
abbrev pub objects_in : NamedFile → List NamedFile
objects_in file = if is_library file.bytes then [] else file ∷ []

-- what a link of files with an entry is given
abbrev pub pool_of_files : List NamedFile → List ℕ → Pool
pool_of_files files entry = record {
  objects = map (λ f. f.bytes) (flat_map objects_in files);
  candidates = map (λ m. m.bytes) (flat_map candidates_in files);
  entry = entry;
}

-- a member of a library as a file of its own, which is called LIBRARY(MEMBER)
abbrev pub named_member : List ℕ → MemberFacts → NamedFile
named_member library m = record { name = library ++ codes "(" ++ m.name ++ codes ")"; bytes = m.bytes }

-- those of candidates, numbered from n on, that are in a set
abbrev pub kept_from : (ℕ → Bool) → ℕ → List MemberFacts → List MemberFacts
kept_from F n [] = []
kept_from F n (m ∷ members) = if F n then m ∷ kept_from F (n + 1) members else kept_from F (n + 1) members

-- a file, or in its place the members of a library that are in a set, where its candidates are numbered from n on
abbrev pub replaced : (ℕ → Bool) → ℕ → NamedFile → List NamedFile
replaced F n file = objects_in file ++ map (named_member file.name) (kept_from F n (candidates_in file))

abbrev pub expanded_from : (ℕ → Bool) → ℕ → List NamedFile → List NamedFile
expanded_from F n [] = []
expanded_from F n (file ∷ files) = replaced F n file ++ expanded_from F (n + length (candidates_in file)) files

-- these are the files of a link: each library is replaced by its chosen members, in the order of the library
pub record IsExpansion (files : List NamedFile) (entry : List ℕ) (job : List NamedFile) : Type 0 where
  pub chosen : ℕ → Bool
  pub choice : IsChoice (pool_of_files files entry) chosen
  pub is : expanded_from chosen 0 files ≡ job

-- a refusal, with the name of the file that it is about, which is empty where it is about none
pub record NamedRefusal : Type 0 where
  pub name : List ℕ
  pub refusal : Refusal

abbrev pub named_refusal : List ℕ → Refusal → NamedRefusal
named_refusal name refusal = record { name = name; refusal = refusal }

-- a candidate of library number k can't be read as an object file
abbrev pub candidate_refusal : ℕ → NamedFile → MemberFacts → Option NamedRefusal
candidate_refusal k library m = option_map (named_refusal (named_member library.name m).name) (fault_refusal k m.bytes)

-- library number k is none, or one of its candidates is refused
abbrev pub library_refusal : ℕ → NamedFile → Option NamedRefusal
library_refusal k file =
    option_map (λ at. named_refusal file.name (BadArchive k at)) (archive_fault file.bytes)
    orelse first_in (candidate_refusal k file) (candidates_in file)

-- file number k is refused: it is too long, or no library, or no object that a link can take
unfoldable pub fetched_refusal : ℕ → NamedFile → Option NamedRefusal
fetched_refusal k file =
    if is_library file.bytes
    then option_map (named_refusal file.name) (length_refusal k file.bytes) orelse library_refusal k file
    else option_map (named_refusal file.name) (file_refusal k file.bytes)

-- the first of the files' refusals, where they are numbered from k on
abbrev pub fetched_refusals : ℕ → List NamedFile → Option NamedRefusal
fetched_refusals k [] = None
fetched_refusals k (file ∷ files) = fetched_refusal k file orelse fetched_refusals (k + 1) files

-- a link takes 1 to 4096 files; with none it has no entry
abbrev pub count_refusal : List ℕ → ℕ → Option Refusal
count_refusal entry count = when (count == 0) (NoEntry entry) orelse when (nat_lt 4096 count) TooManyFiles

-- the files of a link are too few or too many
pub record HasBadCount (files : List NamedFile) (entry : List ℕ) (refusal : NamedRefusal) : Type 0 where
  pub job : List NamedFile
  pub passes : fetched_refusals 0 files ≡ None
  pub is : IsExpansion files entry job
  pub count : option_map (named_refusal []) (count_refusal entry (length job)) ≡ Some refusal

-- these are the files of a link, and none of those that were fetched is refused
pub record IsJob (files : List NamedFile) (entry : List ℕ) (job : List NamedFile) : Type 0 where
  pub passes : fetched_refusals 0 files ≡ None
  pub is : IsExpansion files entry job
  pub count : count_refusal entry (length job) ≡ None

-- what files come to: the first refusal, or the files of the link
abbrev pub ChoosesTo : List NamedFile → List ℕ → Result (List NamedFile) NamedRefusal → Type 0
ChoosesTo files entry (Err refusal) = (fetched_refusals 0 files ≡ Some refusal) ⊎ HasBadCount files entry refusal
ChoosesTo files entry (Ok job) = IsJob files entry job

-- files come to one thing and no other
abbrev pub ChoosesOnce : Type 0
ChoosesOnce =
    (files : List NamedFile) (entry : List ℕ) (one other : Result (List NamedFile) NamedRefusal) →
    ChoosesTo files entry one →
    ChoosesTo files entry other →
    one ≡ other
