-- Why each report comes, and how the console takes it.
use Rattle.std.specs.Prelude.{ℕ, ◌≡◌, ◌⊎◌, ◌<◌, List, [], ◌++◌, Option, Err, slice_index_or}
use Rattle.elf64_exec.specs.declared.layout.Segment.{Segment}
use Rattle.power_machine.specs.declared.machine.Outcome.{Outcome}
use Rattle.power_machine.specs.declared.machine.Outcome.TheVariants as outcome
use Rattle.power_machine.specs.declared.world.Event.{Event}
use Rattle.power_machine.specs.Start.{start_ranges, start_run}
use Rattle.power_machine.specs.Steps.{NumberProgress, ReachesIn}
use Rattle.ppc_outside.specs.Outside.{StoreState, ConsoleState, IsReplaced, ReplaceFails, IsUnchanged, Shows, ShowsPart}
use Rattle.ppc_outside.specs.declared.outside.OutsideError.{OutsideError}
use Rattle.ppc_outside.specs.declared.outside.OutsideError.TheVariants.{Failed, Memory}
use Rattle.ppclink.specs.declared.fetching.Unfetched.{Unfetched}
use Rattle.ppclink.specs.declared.fetching.Unfetched.TheVariants as unfetched
use Rattle.ppclink.specs.declared.report.Report.{Report}
use Rattle.ppclink.specs.declared.report.Report.TheVariants.{Text, Written, Unwritten, NoMemory}
use Rattle.link_engine.specs.Options.{LinkOptions}
use Rattle.ppc_archive.specs.Expand.{NamedFile, NamedRefusal, ChoosesTo}
use Rattle.plain_run.specs.declared.plain.PlainOutcome.{PlainOutcome}
use Rattle.plain_run.specs.declared.plain.PlainOutcome.TheVariants as ending
use Rattle.ppclink.specs.Requests.{Request}
use Rattle.ppclink.specs.Runs.{printed, written, Executes, event_lines, exit_line, left_line, address_text, budget_line, progress_response}
use Rattle.ppclink.specs.Lines.{unread_line, fault_line, offset_text}
use Rattle.ppclink.specs.Responses.{show_response, view_refusal, JobResponds, PlainResponds, FilesRespond}
use Rattle.ppclink.specs.Statuses.{KeepsFiles, Says, HasWritten, HasNotWritten, IsOfResponse}

-- why each report comes
abbrev pub Causes : StoreState → StoreState → Option Request → Report → Type 0
Causes old new found (Text status text) = Says old new found status text.items
Causes old new found Written = HasWritten old new found
Causes old new found Unwritten = HasNotWritten old new found
Causes old new found NoMemory = KeepsFiles old new

-- why a replace is reported so
abbrev pub ReplaceReport : StoreState → StoreState → List ℕ → List ℕ → Report → Type 0
ReplaceReport old new out image Written = IsReplaced old new out image
ReplaceReport old new out image Unwritten = ReplaceFails old new out
ReplaceReport old new out image NoMemory = IsUnchanged old new
ReplaceReport old new out image (Text status text) = ⊥

-- a text with a status, or no memory for it
abbrev pub TextReport : (ℕ → List ℕ → Type 0) → Report → Type 0
TextReport Is (Text status text) = Is status text.items
TextReport Is NoMemory = Unit {0}
TextReport Is Written = ⊥
TextReport Is Unwritten = ⊥

-- a job's link is refused, with this status and text
pub record SaysJob (out : List ℕ) (options : LinkOptions) (job : List NamedFile) (status : ℕ) (text : List ℕ) : Type 0 where
  pub status_is : status ≡ 1
  pub responds : JobResponds out options job (printed status text)

-- a job's executable
pub record GivesJob (out : List ℕ) (options : LinkOptions) (job : List NamedFile) (Stored : List ℕ → Type 0) : Type 0 where
  pub image : List ℕ
  pub responds : JobResponds out options job (written out image)
  pub stored : Stored image

-- why a job's link is reported so
abbrev pub JobReport : StoreState → StoreState → List ℕ → LinkOptions → List NamedFile → Report → Type 0
JobReport old new out options job (Text status text) = SaysJob out options job status text.items × (new ≡ old)
JobReport old new out options job Written = GivesJob out options job (IsReplaced old new out)
JobReport old new out options job Unwritten = GivesJob out options job (λ image. ReplaceFails old new out)
JobReport old new out options job NoMemory = KeepsFiles old new

-- fetched files come to no job, with this status and text
pub record SaysFault (files : List NamedFile) (entry : List ℕ) (status : ℕ) (text : List ℕ) : Type 0 where
  pub fault : NamedRefusal
  pub chooses : ChoosesTo files entry (Err fault)
  pub status_is : status ≡ 1
  pub text_is : text ≡ fault_line fault

-- a job's plain run comes to this status and text
pub record SaysPlain (options : LinkOptions) (budget : ℕ) (input : List ℕ) (job : List NamedFile) (status : ℕ) (text : List ℕ)
    : Type 0 where
  pub status_is : IsOfResponse status
  pub responds : PlainResponds options budget input job (printed status text)

-- so do fetched files
pub record SaysCheck (options : LinkOptions) (budget : ℕ) (input : List ℕ) (names contents : List (List ℕ)) (status : ℕ)
    (text : List ℕ) : Type 0 where
  pub status_is : IsOfResponse status
  pub responds : FilesRespond (PlainResponds options budget input) options.entry names contents (printed status text)

-- a file that was fetched is shown
pub record ShowsFile (name b : List ℕ) (status : ℕ) (text : List ℕ) : Type 0 where
  pub is : show_response name b (view_refusal b) ≡ printed status text

-- the line for a file that wasn't fetched
pub record SaysLine (name : List ℕ) (status : ℕ) (text : List ℕ) : Type 0 where
  pub status_is : status ≡ 3
  pub text_is : text ≡ unread_line name

-- why a file that wasn't fetched is reported so
abbrev pub UnreadReport : List ℕ → OutsideError → Report → Type 0
UnreadReport name Failed report = TextReport (SaysLine name) report
UnreadReport name Memory report = report ≡ NoMemory

-- the file of so many that wasn't fetched is one of them
abbrev pub IsNumbered : Unfetched → ℕ → Type 0
IsNumbered (unfetched.Failed i) count = i < count
IsNumbered unfetched.Memory count = Unit {0}

-- why files of these names that weren't fetched are reported so
abbrev pub UnfetchedReport : List (List ℕ) → Unfetched → Report → Type 0
UnfetchedReport names (unfetched.Failed i) report = TextReport (SaysLine (slice_index_or names i [])) report
UnfetchedReport names unfetched.Memory report = report ≡ NoMemory

-- what is printed of a run, and its status, from its calls and its end
abbrev pub SaysEnd : List Event → Outcome → ℕ → List ℕ → Type 0
SaysEnd events (outcome.Exited code) status text = (status ≡ 0) × (text ≡ event_lines events ++ exit_line code)
SaysEnd events (outcome.Left reason at) status text = (status ≡ 6) × (text ≡ event_lines events ++ left_line reason (address_text at))
SaysEnd events outcome.Budget status text = (status ≡ 7) × (text ≡ event_lines events ++ budget_line)
SaysEnd events outcome.Memory status text = ⊥

-- the same of a plain run, which left in this section of the file with this name, if it did
abbrev pub SaysPlainEnd : List ℕ → ℕ → List Event → PlainOutcome → ℕ → List ℕ → Type 0
SaysPlainEnd name own events (ending.Exited code) status text = (status ≡ 0) × (text ≡ event_lines events ++ exit_line code)
SaysPlainEnd name own events (ending.Left reason section offset) status text =
    (status ≡ 6) × (text ≡ event_lines events ++ left_line reason (name ++ offset_text own offset))
SaysPlainEnd name own events ending.Budget status text = (status ≡ 7) × (text ≡ event_lines events ++ budget_line)
SaysPlainEnd name own events ending.Memory status text = ⊥

-- a program with this input comes to this status and text in at most so many steps
pub record RunSays (entry : ℕ) (segments : List Segment) (input : List ℕ) (budget status : ℕ) (text : List ℕ) : Type 0 where
  pub progress : NumberProgress
  pub reaches : ReachesIn (start_ranges segments) budget (start_run entry segments input []) progress
  pub is : progress_response progress ≡ printed status text

-- what was fetched for a run is executed
pub record SaysRun (name file input : List ℕ) (budget : ℕ) (long : Option (List ℕ)) (status : ℕ) (text : List ℕ) : Type 0 where
  pub status_is : IsOfResponse status
  pub executes : Executes name file input budget long (printed status text)

-- how the console takes a text that has a status, and the status that this gives
abbrev pub Closes : ConsoleState → ConsoleState → ℕ → List ℕ → ℕ → Type 0
Closes before after status text result =
    ((result ≡ status) × Shows before after text) ⊎ ((result ≡ 4) × ShowsPart before after text) ⊎ ((result ≡ 5) × (after ≡ before))

-- how the console takes a report
abbrev pub Ends : ConsoleState → ConsoleState → Report → ℕ → Type 0
Ends before after (Text status text) result = Closes before after status text.items result
Ends before after Written result = (result ≡ 0) × (after ≡ before)
Ends before after Unwritten result = (result ≡ 4) × (after ≡ before)
Ends before after NoMemory result = (result ≡ 5) × (after ≡ before)
