-- What files and a console hold, what a call changes, and why it may fail.
use Rattle.std.specs.Prelude.{◌≡◌, ◌≢◌, ◌⊎◌, ℕ, ◌+◌, ◌-◌, ◌≤◌, ◌<◌, ◌^◌, List, ◌++◌, take, Option, Some, None, Result, Ok, Err}
use Rattle.ppc_outside.specs.declared.outside.OutsideError.{OutsideError}
use Rattle.ppc_outside.specs.declared.outside.OutsideError.TheVariants.{Failed, Memory}

-- what each name holds
abbrev pub Files : Type 0
Files = List ℕ → Option (List ℕ)

-- a store at one moment: what it tells of its files, and how many fetches and how many replaces have failed
pub record StoreState : Type 0 where
  pub told : Option Files
  pub faults : ℕ
  pub write_faults : ℕ

-- a console at one moment: what it tells of what was printed, and how many puts have failed
pub record ConsoleState : Type 0 where
  pub told : Option (List ℕ)
  pub faults : ℕ

-- the last value of a count of faults
abbrev pub last_count : ℕ
last_count = 2 ^ 64 - 1

-- a count of faults rose, or it stands at its last value
pub record HasRisen (before now : ℕ) : Type 0 where
  pub grows : before ≤ now
  pub rose : (before < now) ⊎ (now ≡ last_count)

-- a count of faults rose, or it stands at its last value, or there is another cause
abbrev pub RoseOr : ℕ → ℕ → Type 0 → Type 0
RoseOr before now cause = (before < now) ⊎ (now ≡ last_count) ⊎ cause

-- the store tells its files, and has none of this name
abbrev pub Lacks : Option Files → List ℕ → Type 0
Lacks None name = ⊥
Lacks (Some files) name = files name ≡ None

-- where the store tells its files, the name holds these bytes
abbrev pub Holds : Option Files → List ℕ → List ℕ → Type 0
Holds None name bytes = Unit {0}
Holds (Some files) name bytes = files name ≡ Some bytes

-- the first bytes of the named file are appended, at most so many
pub record AppendsFile (told : Option Files) (name : List ℕ) (limit : ℕ) (old new : List ℕ) : Type 0 where
  pub file : List ℕ
  pub holds : Holds told name file
  pub appended : new ≡ old ++ take limit file

-- the store is as it was, but that fetches may have failed
pub record OnlyFetches (old new : StoreState) : Type 0 where
  pub told : new.told ≡ old.told
  pub write_faults : new.write_faults ≡ old.write_faults
  pub grows : old.faults ≤ new.faults

-- a fetch failed for the store's reasons, or since the name is absent
pub record FetchFails (old new : StoreState) (name : List ℕ) : Type 0 where
  pub kept : OnlyFetches old new
  pub cause : RoseOr old.faults new.faults (Lacks old.told name)

-- how a fetch leaves the store
abbrev pub Fetches : StoreState → StoreState → List ℕ → Result (Unit {0}) OutsideError → Type 0
Fetches old new name (Ok u) = new ≡ old
Fetches old new name (Err Failed) = FetchFails old new name
Fetches old new name (Err Memory) = new ≡ old

-- each other name holds what it held
abbrev pub OthersStay : Files → Files → List ℕ → Type 0
OthersStay old new name = (other : List ℕ) → other ≢ name → new other ≡ old other

-- each name holds what it held
abbrev pub AllStay : Files → Files → Type 0
AllStay old new = (name : List ℕ) → new name ≡ old name

-- the name holds the bytes, and every other name what it held
pub record NowHolds (old new : Files) (name bytes : List ℕ) : Type 0 where
  pub holds : new name ≡ Some bytes
  pub others : OthersStay old new name

-- no file has changed
abbrev pub SameFiles : Option Files → Option Files → Type 0
SameFiles None None = Unit {0}
SameFiles None (Some new) = ⊥
SameFiles (Some old) None = ⊥
SameFiles (Some old) (Some new) = AllStay old new

-- no file but that of this name has changed
abbrev pub SparesOthers : Option Files → Option Files → List ℕ → Type 0
SparesOthers None None name = Unit {0}
SparesOthers None (Some new) name = ⊥
SparesOthers (Some old) None name = ⊥
SparesOthers (Some old) (Some new) name = OthersStay old new name

-- the file of this name holds the bytes, and no other has changed
abbrev pub Writes : Option Files → Option Files → List ℕ → List ℕ → Type 0
Writes None None name bytes = Unit {0}
Writes None (Some new) name bytes = ⊥
Writes (Some old) None name bytes = ⊥
Writes (Some old) (Some new) name bytes = NowHolds old new name bytes

-- a replace was done
pub record IsReplaced (old new : StoreState) (name bytes : List ℕ) : Type 0 where
  pub told : Writes old.told new.told name bytes
  pub faults : new.faults ≡ old.faults
  pub write_faults : new.write_faults ≡ old.write_faults

-- a replace failed; anything may stand under the name
pub record ReplaceFails (old new : StoreState) (name : List ℕ) : Type 0 where
  pub told : SparesOthers old.told new.told name
  pub faults : new.faults ≡ old.faults
  pub write_faults : HasRisen old.write_faults new.write_faults

-- the store is as it was
pub record IsUnchanged (old new : StoreState) : Type 0 where
  pub told : SameFiles old.told new.told
  pub faults : new.faults ≡ old.faults
  pub write_faults : new.write_faults ≡ old.write_faults

-- how a replace leaves the store
abbrev pub Replaces : StoreState → StoreState → List ℕ → List ℕ → Result (Unit {0}) OutsideError → Type 0
Replaces old new name bytes (Ok u) = IsReplaced old new name bytes
Replaces old new name bytes (Err Failed) = ReplaceFails old new name
Replaces old new name bytes (Err Memory) = IsUnchanged old new

-- what was printed goes on with these bytes
abbrev pub GoesOn : Option (List ℕ) → Option (List ℕ) → List ℕ → Type 0
GoesOn None None bytes = Unit {0}
GoesOn None (Some new) bytes = ⊥
GoesOn (Some old) None bytes = ⊥
GoesOn (Some old) (Some new) bytes = new ≡ old ++ bytes

-- the bytes were printed, all of them
pub record Shows (old new : ConsoleState) (bytes : List ℕ) : Type 0 where
  pub told : GoesOn old.told new.told bytes
  pub faults : new.faults ≡ old.faults

-- the console failed, and printed the first so many of the bytes
pub record ShowsPart (old new : ConsoleState) (bytes : List ℕ) : Type 0 where
  pub count : ℕ
  pub told : GoesOn old.told new.told (take count bytes)
  pub faults : HasRisen old.faults new.faults

-- how a put leaves the console
abbrev pub Prints : ConsoleState → ConsoleState → List ℕ → Result (Unit {0}) OutsideError → Type 0
Prints old new bytes (Ok u) = Shows old new bytes
Prints old new bytes (Err Failed) = ShowsPart old new bytes
Prints old new bytes (Err Memory) = new ≡ old
