-- What each status of the command means: a status is tied to the store and the console before and after the call, and to what the
-- words ask for.
use Rattle.std.specs.Prelude.{ℕ, ◌≡◌, ◌≢◌, ◌⊎◌, ◌<◌, ◌≤◌, ◌+◌, List, Option, Some, None, Contains, IsSome, Result, Ok, Err}
use Rattle.ppc_outside.specs.Outside.{Files, StoreState, ConsoleState, HasRisen, RoseOr, last_count, OnlyFetches, SameFiles, IsReplaced, ReplaceFails}
use Rattle.link_engine.specs.Link.{placement_limit}
use Rattle.link_engine.specs.Options.{LinkOptions}
use Rattle.ppc_archive.specs.Expand.{NamedFile, NamedRefusal, ChoosesTo}
use Rattle.ppclink.specs.Jobs.{fetched, contents_in_job}
use Rattle.ppclink.specs.Requests.{Request, link_to, show_file, run_image, check_job, names_of, names_asked, out_of}
use Rattle.ppclink.specs.Lines.{usage_line, unread_line}
use Rattle.ppclink.specs.Runs.{Response, printed, written}
use Rattle.ppclink.specs.Responses.{first_missing, contents_in, RespondsOver, ComesTo}

-- a status; or 4 where a put failed, or 5 where memory was refused
abbrev pub IsOr : ℕ → ℕ → ConsoleState → ConsoleState → Type 0
IsOr status result before after = (result ≡ status) ⊎ ((result ≡ 4) × HasRisen before.faults after.faults) ⊎ (result ≡ 5)

-- 0; or 4 where a replace failed, or 5 where memory was refused
abbrev pub IsDoneOr : ℕ → StoreState → StoreState → Type 0
IsDoneOr result before after = (result ≡ 0) ⊎ ((result ≡ 4) × HasRisen before.write_faults after.write_faults) ⊎ (result ≡ 5)

-- no file has changed and no replace has failed; fetches may have
pub record KeepsFiles (old new : StoreState) : Type 0 where
  pub told : SameFiles old.told new.told
  pub write_faults : new.write_faults ≡ old.write_faults
  pub grows : old.faults ≤ new.faults

-- the store tells its files, and this is the first of the names that none has
abbrev pub IsFirstMissing : Option Files → List (List ℕ) → List ℕ → Type 0
IsFirstMissing None names name = ⊥
IsFirstMissing (Some files) names name = first_missing files names ≡ Some name

-- one of the files with these names can't be read, and it is the first that is missing where no fetch may have failed
pub record IsUnread (old new : StoreState) (names : List (List ℕ)) (name : List ℕ) : Type 0 where
  pub among : Contains names name
  pub cause : RoseOr old.faults new.faults (IsFirstMissing old.told names name)
  pub kept : OnlyFetches old new

-- the store tells its files, and one of the names has none
abbrev pub LacksOne : Option Files → List (List ℕ) → Type 0
LacksOne None names = ⊥
LacksOne (Some files) names = IsSome (first_missing files names)

-- the words ask for files of which one can't be read
abbrev pub CannotRead : StoreState → StoreState → Option Request → Type 0
CannotRead old new None = ⊥
CannotRead old new (Some request) = (old.faults < new.faults) ⊎ LacksOne old.told (names_of request)

-- the words aren't understood, with this status and text
pub record SaysUsage (old new : StoreState) (found : Option Request) (status : ℕ) (text : List ℕ) : Type 0 where
  pub none : found ≡ None
  pub status_is : status ≡ 2
  pub text_is : text ≡ usage_line
  pub store : new ≡ old

-- a file can't be read, with this status and text
pub record SaysUnread (old new : StoreState) (found : Option Request) (status : ℕ) (text : List ℕ) : Type 0 where
  pub name : List ℕ
  pub unread : IsUnread old new (names_asked found) name
  pub status_is : status ≡ 3
  pub text_is : text ≡ unread_line name

-- a status of a response that is printed: done, refused, left, or out of steps
abbrev pub IsOfResponse : ℕ → Type 0
IsOfResponse status = (status ≤ 1) ⊎ (status ≡ 6) ⊎ (status ≡ 7)

-- the request comes to this status and text
pub record SaysResponse (old new : StoreState) (found : Option Request) (status : ℕ) (text : List ℕ) : Type 0 where
  pub status_is : IsOfResponse status
  pub comes : ComesTo old found (printed status text)
  pub store : new ≡ old

-- the one text that a call has to print, with its status
abbrev pub Says : StoreState → StoreState → Option Request → ℕ → List ℕ → Type 0
Says old new found status text =
    SaysUsage old new found status text ⊎ SaysUnread old new found status text ⊎ SaysResponse old new found status text

-- the same whatever the status
abbrev pub HasText : StoreState → StoreState → Option Request → List ℕ → Type 0
HasText old new found text = (status : ℕ) × Says old new found status text

-- the executable that a link comes to stands under its name
pub record HasWritten (old new : StoreState) (found : Option Request) : Type 0 where
  pub out : List ℕ
  pub image : List ℕ
  pub named : out_of found ≡ Some out
  pub comes : ComesTo old found (written out image)
  pub store : IsReplaced old new out image

-- it couldn't be written; every other file is as it was
pub record HasNotWritten (old new : StoreState) (found : Option Request) : Type 0 where
  pub out : List ℕ
  pub image : List ℕ
  pub named : out_of found ≡ Some out
  pub comes : ComesTo old found (written out image)
  pub store : ReplaceFails old new out

-- the store tells its files, no fetch failed or may have, and this is what the words come to
pub record IsSettled (old new : StoreState) (found : Option Request) (response : Response) : Type 0 where
  pub request : Request
  pub is : found ≡ Some request
  pub files : Files
  pub told : old.told ≡ Some files
  pub comes : RespondsOver files request response
  pub quiet : new.faults ≡ old.faults
  pub sound : new.faults ≢ last_count

-- a count of faults didn't rise, and doesn't stand at its last value
pub record IsQuiet (before now : ℕ) : Type 0 where
  pub same : now ≡ before
  pub sound : now ≢ last_count

-- the status of a response
abbrev pub status_of : Response → ℕ
status_of (printed status text) = status
status_of (written out image) = 0

-- a job counts a step for each time that it places a text, and none where its files are refused before it
abbrev pub CountsJob : LinkOptions → Result (List NamedFile) NamedRefusal → ℕ → ℕ → Type 0
CountsJob options (Err fault) old new = new ≡ old
CountsJob options (Ok job) old new = new ≤ old + placement_limit (contents_in_job job) options

-- so it is of files with these names and contents
abbrev pub CountsFor : LinkOptions → List (List ℕ) → List (List ℕ) → ℕ → ℕ → Type 0
CountsFor options names contents old new =
    (choice : Result (List NamedFile) NamedRefusal) → ChoosesTo (fetched names contents) options.entry choice →
    CountsJob options choice old new

-- over the files, where the store tells them, and else over any contents
abbrev pub CountsOver : Option Files → LinkOptions → List (List ℕ) → ℕ → ℕ → Type 0
CountsOver None options names old new = (contents : List (List ℕ)) × CountsFor options names contents old new
CountsOver (Some files) options names old new = CountsFor options names (contents_in files names) old new

-- a link and a check count so, and no other request counts one
abbrev pub CountsBy : Option Files → Request → ℕ → ℕ → Type 0
CountsBy told (link_to out options names) old new = CountsOver told options names old new
CountsBy told (show_file name) old new = new ≡ old
CountsBy told (run_image options image) old new = new ≡ old
CountsBy told (check_job options run names) old new = CountsOver told options names old new

-- how far the counter of steps goes
abbrev pub Ticks : StoreState → Option Request → ℕ → ℕ → Type 0
Ticks store None old new = new ≡ old
Ticks store (Some request) old new = CountsBy store.told request old new
