-- What a report tells, from a text or the want of memory for it, and from a file that couldn't be read.
use Rattle.std.proofs.Common.{◌≡◌, ℕ, ◌<◌, inl, inr, List, [], ◌∷◌, length, get_or, Option, Some, None, refl, sym, ap, ◌∙◌, subst, arith, String, Vec, zero, suc}
use Rattle.std.specs.Prelude.{Result, Ok, Err, IfOk, OnOk, MatchResult, Contains, string_bytes, slice_index_or}
use Rattle.std.specs.declared.alloc.Global.{Global}
use Rattle.ppc_bytes.specs.declared.memory.Memory.{Memory as NoRoom}
use Rattle.ppc_outside.specs.Outside.{Files, StoreState, Lacks, OnlyFetches, FetchFails, SameFiles, IsUnchanged}
use Rattle.ppc_outside.specs.declared.outside.OutsideError.{OutsideError}
use Rattle.ppc_outside.specs.declared.outside.OutsideError.TheVariants.{Failed, Memory}
use Rattle.ppclink.specs.declared.fetching.Unfetched.{Unfetched}
use Rattle.ppclink.specs.declared.fetching.Unfetched.TheVariants as unfetched
use Rattle.ppclink.specs.declared.report.Report.{Report}
use Rattle.ppclink.specs.declared.report.Report.TheVariants.{Text, Written, Unwritten, NoMemory}
use Rattle.ppclink.specs.Requests.{Request, texts, names_asked}
use Rattle.ppclink.specs.Lines.{unread_line}
use Rattle.ppclink.specs.Statuses.{KeepsFiles, IsFirstMissing, IsUnread, Says, SaysUnread}
use Rattle.ppclink.specs.inside.Fetched.{OneCause, ManyCause, FailsAt}
use Rattle.ppclink.specs.inside.Reports.{Causes, TextReport, UnreadReport, UnfetchedReport, SaysLine}
use Rattle.ppclink.proofs.Reading.{length-texts, rose_or}

same_files : (told : Option Files) → SameFiles told told
same_files None = tt
same_files (Some files) = λ name. refl

same_told : (told told' : Option Files) → told' ≡ told → SameFiles told told'
same_told told told' h = subst (SameFiles told) (sym h) (same_files told)

-- a store that is as it was keeps its files
pub keeps_only : (old new : StoreState) → OnlyFetches old new → KeepsFiles old new
keeps_only old new only = record { told = same_told old.told new.told only.told; write_faults = only.write_faults; grows = only.grows }

pub keeps_same : (old new : StoreState) → new ≡ old → KeepsFiles old new
keeps_same old new same =
    keeps_only old new (record {
      told = ap (λ s. s.told) same;
      write_faults = ap (λ s. s.write_faults) same;
      grows = (let e : new.faults ≡ old.faults = ap (λ s. s.faults) same in omega arith);
    })

pub keeps_unchanged : (old new : StoreState) → IsUnchanged old new → KeepsFiles old new
keeps_unchanged old new is =
    let e : new.faults ≡ old.faults = is.faults in
    record { told = is.told; write_faults = is.write_faults; grows = omega arith }

-- a text, if there was memory for it
pub text_stated : (Is : ℕ → List ℕ → Type 0) (stated : Type 0) (status : ℕ) (line : List ℕ) (text : Result (Vec ℕ Global) NoRoom)
    (a : Report) →
    (stated → Is status line) →
    IfOk text (λ t. t.items ≡ line) →
    OnOk text stated →
    MatchResult text (λ t. a ≡ Text status t) (λ e. a ≡ NoMemory) →
    TextReport Is a
text_stated Is stated status line (Ok t) a says line-is here is =
    subst (TextReport Is) (sym is) (subst (Is status) (sym line-is) (says here))
text_stated Is stated status line (Err e) a says line-is here is = subst (TextReport Is) (sym is) tt

pub text_says : (Is : ℕ → List ℕ → Type 0) (status : ℕ) (line : List ℕ) (text : Result (Vec ℕ Global) NoRoom) (a : Report) →
    Is status line →
    IfOk text (λ t. t.items ≡ line) →
    MatchResult text (λ t. a ≡ Text status t) (λ e. a ≡ NoMemory) →
    TextReport Is a
text_says Is status line (Ok t) a says line-is is = subst (TextReport Is) (sym is) (subst (Is status) (sym line-is) says)
text_says Is status line (Err e) a says line-is is = subst (TextReport Is) (sym is) tt

-- another fact that follows of the text
pub text_follows : (Is Is' : ℕ → List ℕ → Type 0) (a : Report) →
    ((status : ℕ) (text : List ℕ) → Is status text → Is' status text) →
    TextReport Is a →
    TextReport Is' a
text_follows Is Is' (Text status text) follows says = follows status text.items says
text_follows Is Is' NoMemory follows says = tt
text_follows Is Is' Written follows says = absurd says
text_follows Is Is' Unwritten follows says = absurd says

-- a text that a call has to print, or no memory for it
pub text_causes : (old new : StoreState) (found : Option Request) (a : Report) →
    KeepsFiles old new →
    TextReport (Says old new found) a →
    Causes old new found a
text_causes old new found (Text status text) keeps says = says
text_causes old new found NoMemory keeps says = keeps
text_causes old new found Written keeps says = absurd says
text_causes old new found Unwritten keeps says = absurd says

-- a name that is absent is the first that is missing where it stands first
pub first_absent : (told : Option Files) (name : List ℕ) (rest : List (List ℕ)) → Lacks told name → IsFirstMissing told (name ∷ rest) name
first_absent None name rest lacks = absurd lacks
first_absent (Some files) name rest lacks = rw lacks

contains_first : (name : List ℕ) (rest : List (List ℕ)) → Contains (name ∷ rest) name
contains_first name rest = (0, omega arith, refl)

pub first_unread : (old new : StoreState) (name : List ℕ) (rest : List (List ℕ)) →
    FetchFails old new name →
    IsUnread old new (name ∷ rest) name
first_unread old new name rest fails = record {
  among = contains_first name rest;
  cause = rose_or _ _ _ _ (first_absent old.told name rest) fails.cause;
  kept = fails.kept;
}

-- the report where one file couldn't be read
pub one_unread : (old new : StoreState) (found : Option Request) (name : List ℕ) (e : OutsideError) (a : Report) →
    (FetchFails old new name → IsUnread old new (names_asked found) name) →
    OneCause old new name e →
    UnreadReport name e a →
    Causes old new found a
one_unread old new found name Failed a unread fails report =
    text_causes old new found a (keeps_only old new fails.kept)
    (text_follows (SaysLine name) (Says old new found) a
    (λ status text says.
    inr (inl (record { name = name; unread = unread fails; status_is = says.status_is; text_is = says.text_is })))
    report)
one_unread old new found name Memory a unread same report =
    subst (Causes old new found) (sym report) (keeps_same old new same)

-- the report where one of many couldn't be read
pub many_unread : (old new : StoreState) (found : Option Request) (names : List (List ℕ)) (cause : Unfetched) (a : Report) →
    ((name : List ℕ) → IsUnread old new names name → IsUnread old new (names_asked found) name) →
    ManyCause old new names cause →
    UnfetchedReport names cause a →
    Causes old new found a
many_unread old new found names (unfetched.Failed i) a unread fails report =
    let name : List ℕ = slice_index_or names i [] in
    text_causes old new found a (keeps_only old new fails.unread.kept)
    (text_follows (SaysLine name) (Says old new found) a
    (λ status text says.
    inr (inl (record {
      name = name;
      unread = unread name fails.unread;
      status_is = says.status_is;
      text_is = says.text_is;
    })))
    report)
many_unread old new found names unfetched.Memory a unread same report =
    subst (Causes old new found) (sym report) (keeps_same old new same)
