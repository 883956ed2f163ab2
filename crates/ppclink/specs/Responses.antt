-- What a request comes to, given what the files hold.
use Rattle.std.specs.Prelude.{ℕ, ◌≡◌, List, [], ◌∷◌, ◌++◌, length, map, take, Option, Some, None, unwrap_or, slice_index_or, Result, Ok, Err}
use Rattle.elf64_records.specs.First.{◌orelse◌}
use Rattle.object_set.specs.Refusals.{length_refusal, fault_refusal}
use Rattle.object_set.specs.declared.refusal.Refusal.{Refusal}
use Rattle.call_sites.specs.Sites.{text_section}
use Rattle.plain_machine.specs.declared.place.TextPlace.{TextPlace}
use Rattle.plain_machine.specs.Actions.{PlainProgress}
use Rattle.link_engine.specs.Link.{LinkOutcome, LinksTo}
use Rattle.link_engine.specs.Plain.{PlainComesTo}
use Rattle.link_engine.specs.Options.{LinkOptions}
use Rattle.ppc_outside.specs.Outside.{Files, StoreState}
use Rattle.ppclink.specs.Requests.{Request, RunOptions, link_to, show_file, run_image, check_job, names_of}
use Rattle.ppc_archive.specs.Expand.{NamedFile, NamedRefusal, ChoosesTo}
use Rattle.ppclink.specs.Lines.{refusal_line, fault_line, unread_line, name_in, offset_text}
use Rattle.ppclink.specs.Jobs.{fetched, names_in_job, contents_in_job}
use Rattle.ppclink.specs.Show.{shown}
use Rattle.ppclink.specs.Runs.{Response, printed, written, Executes, long_line, long_input, response_by}

-- what a link comes to, as a response: the line of its refusal, or the executable
abbrev pub link_response : List ℕ → List (List ℕ) → LinkOutcome → Response
link_response out names (Err refusal) = printed 1 (refusal_line names refusal)
link_response out names (Ok image) = written out image

-- a link of a job's files
pub record JobResponds (out : List ℕ) (options : LinkOptions) (job : List NamedFile) (response : Response) : Type 0 where
  pub outcome : LinkOutcome
  pub links : LinksTo (contents_in_job job) options outcome
  pub is : link_response out (names_in_job job) outcome ≡ response

-- where a plain run of files with these names and contents left
abbrev pub code_place_text : List (List ℕ) → List (List ℕ) → TextPlace → List ℕ
code_place_text names contents at =
    let s = text_section contents at.section in name_in names s.file ++ offset_text s.section at.offset

-- what a plain run comes to, as a response: the line of its refusal, or what is printed of a run
abbrev pub plain_response : List (List ℕ) → List (List ℕ) → Result PlainProgress Refusal → Response
plain_response names contents (Err refusal) = printed 1 (refusal_line names refusal)
plain_response names contents (Ok progress) = response_by (code_place_text names contents) progress

-- a plain run of a job's files in at most so many steps, with this input and no answers
pub record PlainResponds (options : LinkOptions) (budget : ℕ) (input : List ℕ) (job : List NamedFile) (response : Response)
    : Type 0 where
  pub outcome : Result PlainProgress Refusal
  pub comes : PlainComesTo (contents_in_job job) options input [] budget outcome
  pub is : plain_response (names_in_job job) (contents_in_job job) outcome ≡ response

-- what files come to, as a response: the line of their refusal, or what the job comes to
abbrev pub ChoiceResponds : (List NamedFile → Response → Type 0) → Result (List NamedFile) NamedRefusal → Response → Type 0
ChoiceResponds JobComes (Err fault) response = printed 1 (fault_line fault) ≡ response
ChoiceResponds JobComes (Ok job) response = JobComes job response

-- the job of files with these names and contents, in which each library is replaced by the members that are chosen for this entry
pub record FilesRespond (JobComes : List NamedFile → Response → Type 0) (entry : List ℕ) (names contents : List (List ℕ))
    (response : Response) : Type 0 where
  pub choice : Result (List NamedFile) NamedRefusal
  pub chooses : ChoosesTo (fetched names contents) entry choice
  pub is : ChoiceResponds JobComes choice response

-- why an object file can't be shown
abbrev pub view_refusal : List ℕ → Option Refusal
view_refusal b = length_refusal 0 b orelse fault_refusal 0 b

-- a file that is shown: the line of what is wrong with it, or its text
abbrev pub show_response : List ℕ → List ℕ → Option Refusal → Response
show_response name b (Some refusal) = printed 1 (refusal_line (name ∷ []) refusal)
show_response name b None = printed 0 (shown b)

abbrev pub ShowResponds : List ℕ → List (List ℕ) → Response → Type 0
ShowResponds name (b ∷ []) response = show_response name b (view_refusal b) ≡ response
ShowResponds name contents response = ⊥

-- an executable that is run, with the bytes of its input or none
abbrev pub RunResponds : ℕ → List ℕ → Option (List ℕ) → List (List ℕ) → Response → Type 0
RunResponds budget image None (file ∷ []) response = Executes image file [] budget (long_line image None file []) response
RunResponds budget image (Some input) (file ∷ given ∷ []) response =
    Executes image file given budget (long_line image (Some input) file given) response
RunResponds budget image input contents response = ⊥

-- of what a check fetches: the contents of its files, and the bytes of its input, which is fetched behind them, if there is one
abbrev pub files_in : List (List ℕ) → List (List ℕ) → List (List ℕ)
files_in names contents = take (length names) contents

abbrev pub input_in : Option (List ℕ) → List (List ℕ) → List (List ℕ) → List ℕ
input_in None names contents = []
input_in (Some input) names contents = slice_index_or contents (length names) []

-- an input that is too long is refused, and else the files run without an image
abbrev pub ChecksWith : LinkOptions → ℕ → List (List ℕ) → List (List ℕ) → List ℕ → Option (List ℕ) → Response → Type 0
ChecksWith options budget names contents input (Some text) response = printed 1 text ≡ response
ChecksWith options budget names contents input None response =
    FilesRespond (PlainResponds options budget input) options.entry names contents response

abbrev pub CheckResponds : LinkOptions → RunOptions → List (List ℕ) → List (List ℕ) → Response → Type 0
CheckResponds options run names contents response =
    let input = input_in run.input names contents in
    ChecksWith options run.budget names (files_in names contents) input (long_input run.input input) response

-- what a request comes to where the files that it names have these contents
abbrev pub Responds : Request → List (List ℕ) → Response → Type 0
Responds (link_to out options names) contents response =
    FilesRespond (JobResponds out options) options.entry names contents response
Responds (show_file name) contents response = ShowResponds name contents response
Responds (run_image options image) contents response = RunResponds options.budget image options.input contents response
Responds (check_job options run names) contents response = CheckResponds options run names contents response

-- a name that has no file, or else the later one
abbrev pub or_missing : Option (List ℕ) → List ℕ → Option (List ℕ) → Option (List ℕ)
or_missing None name later = Some name
or_missing (Some bytes) name later = later

-- the first name that has no file
abbrev pub first_missing : Files → List (List ℕ) → Option (List ℕ)
first_missing files [] = None
first_missing files (name ∷ names) = or_missing (files name) name (first_missing files names)

-- the contents of files that are there
abbrev pub contents_in : Files → List (List ℕ) → List (List ℕ)
contents_in files names = map (λ name. unwrap_or (files name) []) names

-- a file that is missing comes before all else
abbrev pub RespondsBut : Option (List ℕ) → Request → List (List ℕ) → Response → Type 0
RespondsBut (Some name) request contents response = printed 3 (unread_line name) ≡ response
RespondsBut None request contents response = Responds request contents response

-- what a request comes to over these files
abbrev pub RespondsOver : Files → Request → Response → Type 0
RespondsOver files request response =
    RespondsBut (first_missing files (names_of request)) request (contents_in files (names_of request)) response

-- what a request may come to over a store: over its files, where it tells them, and else over any contents
abbrev pub MayRespond : Option Files → Request → Response → Type 0
MayRespond None request response = (contents : List (List ℕ)) × Responds request contents response
MayRespond (Some files) request response = RespondsOver files request response

-- what the words of a command may come to over a store
abbrev pub ComesTo : StoreState → Option Request → Response → Type 0
ComesTo store None response = ⊥
ComesTo store (Some request) response = MayRespond store.told request response
