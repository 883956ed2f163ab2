-- A request comes to one thing: a law for each command, and one for all.
use Rattle.std.proofs.Common.{◌≡◌, ℕ, inl, inr, List, [], ◌∷◌, Option, Some, None, sym, ap, subst, ◌∙◌}
use Rattle.std.specs.Prelude.{Result, Ok, Err}
use Rattle.elf64_exec.specs.laws.Faults.{no_fault, one_fault}
use Rattle.power_machine.specs.laws.Steps.{one_run}
use Rattle.ppc_outside.specs.Outside.{Files}
use Rattle.link_engine.specs.Options.{LinkOptions}
use Rattle.link_engine.proofs.OneRun.{runs_are_one}
use Rattle.link_engine.specs.laws.Outcomes.{links_are_one}
use Rattle.ppc_archive.specs.Expand.{NamedFile, NamedRefusal}
use Rattle.ppc_archive.specs.laws.OneJob.{chooses_once}
use Rattle.ppclink.specs.Jobs.{fetched, names_in_job, contents_in_job}
use Rattle.ppclink.specs.Requests.{Request, link_to, show_file, run_image, check_job, names_of}
use Rattle.ppclink.specs.Runs.{Response, printed, IsProgram, IsNoProgram, Executes, exec_line, long_line, long_input, progress_response}
use Rattle.ppclink.specs.Responses.{JobResponds, PlainResponds, plain_response, ChoiceResponds, FilesRespond, ChecksWith, files_in, input_in, link_response, ShowResponds, RunResponds, Responds, RespondsBut, RespondsOver, first_missing, contents_in}

-- a program has one run
one_program : (file input : List ℕ) (budget : ℕ) (r r' : Response) → IsProgram file input budget r →
    IsProgram file input budget r' → r ≡ r'
one_program file input budget r r' a b =
    sym a.is ∙ ap progress_response (one_run file input [] budget a.progress b.progress a.runs b.runs) ∙ b.is

-- a file that is no program has one fault
one_fault_line : (name file : List ℕ) (r r' : Response) → IsNoProgram name file r → IsNoProgram name file r' → r ≡ r'
one_fault_line name file r r' a b =
    sym a.is ∙ ap (λ f. printed 1 (exec_line name f)) (one_fault file a.fault b.fault a.has b.has a.real b.real) ∙ b.is

executes_once : (name file input : List ℕ) (budget : ℕ) (long : Option (List ℕ)) (r r' : Response) →
    Executes name file input budget long r →
    Executes name file input budget long r' →
    r ≡ r'
executes_once name file input budget (Some text) r r' h k = sym h ∙ k
executes_once name file input budget None r r' (inl a) (inl b) = one_fault_line name file r r' a b
executes_once name file input budget None r r' (inl a) (inr b) =
    absurd (a.real (no_fault file b.runs.entry b.runs.segments a.fault b.runs.loads a.has))
executes_once name file input budget None r r' (inr a) (inl b) =
    absurd (b.real (no_fault file a.runs.entry a.runs.segments b.fault a.runs.loads b.has))
executes_once name file input budget None r r' (inr a) (inr b) = one_program file input budget r r' a b

run_once : (budget : ℕ) (image : List ℕ) (input : Option (List ℕ)) (contents : List (List ℕ)) (r r' : Response) →
    RunResponds budget image input contents r →
    RunResponds budget image input contents r' →
    r ≡ r'
run_once budget image None [] r r' h k = absurd h
run_once budget image None (file ∷ []) r r' h k = executes_once image file [] budget (long_line image None file []) r r' h k
run_once budget image None (file ∷ more ∷ rest) r r' h k = absurd h
run_once budget image (Some input) [] r r' h k = absurd h
run_once budget image (Some input) (file ∷ []) r r' h k = absurd h
run_once budget image (Some input) (file ∷ given ∷ []) r r' h k =
    executes_once image file given budget (long_line image (Some input) file given) r r' h k
run_once budget image (Some input) (file ∷ given ∷ more ∷ rest) r r' h k = absurd h

show_once : (name : List ℕ) (contents : List (List ℕ)) (r r' : Response) →
    ShowResponds name contents r →
    ShowResponds name contents r' →
    r ≡ r'
show_once name [] r r' h k = absurd h
show_once name (b ∷ []) r r' h k = sym h ∙ k
show_once name (b ∷ more ∷ rest) r r' h k = absurd h

job_once : (out : List ℕ) (options : LinkOptions) (job : List NamedFile) (r r' : Response) → JobResponds out options job r →
    JobResponds out options job r' → r ≡ r'
job_once out options job r r' h k =
    sym h.is ∙ ap (link_response out (names_in_job job)) (links_are_one
    (contents_in_job job) options h.outcome k.outcome h.links k.links) ∙ k.is

plain_once : (options : LinkOptions) (budget : ℕ) (input : List ℕ) (job : List NamedFile) (r r' : Response) →
    PlainResponds options budget input job r →
    PlainResponds options budget input job r' →
    r ≡ r'
plain_once options budget input job r r' h k =
    sym h.is
    ∙ ap (plain_response (names_in_job job) (contents_in_job job))
    (runs_are_one (contents_in_job job) options input [] budget h.outcome k.outcome h.comes k.comes)
    ∙ k.is

-- files come to one thing where a job does
module _ (JobComes : List NamedFile → Response → Type 0)
    (job_is_one : (job : List NamedFile) (r r' : Response) → JobComes job r → JobComes job r' → r ≡ r') where
  choice_once : (choice : Result (List NamedFile) NamedRefusal) (r r' : Response) →
      ChoiceResponds JobComes choice r →
      ChoiceResponds JobComes choice r' →
      r ≡ r'
  choice_once (Err fault) r r' h k = sym h ∙ k
  choice_once (Ok job) r r' h k = job_is_one job r r' h k

  files_once : (entry : List ℕ) (names contents : List (List ℕ)) (r r' : Response) →
      FilesRespond JobComes entry names contents r →
      FilesRespond JobComes entry names contents r' →
      r ≡ r'
  files_once entry names contents r r' h k =
      let one = chooses_once (fetched names contents) entry h.choice k.choice h.chooses k.chooses in
      choice_once k.choice r r'
      (subst (λ (c : Result (List NamedFile) NamedRefusal). ChoiceResponds JobComes c r) one h.is) k.is

check_once : (options : LinkOptions) (budget : ℕ) (names contents : List (List ℕ)) (input : List ℕ) (long : Option (List ℕ))
    (r r' : Response) →
    ChecksWith options budget names contents input long r →
    ChecksWith options budget names contents input long r' →
    r ≡ r'
check_once options budget names contents input (Some text) r r' h k = sym h ∙ k
check_once options budget names contents input None r r' h k =
    files_once (PlainResponds options budget input) (plain_once options budget input) options.entry names contents r r' h k

responds_once : (request : Request) (contents : List (List ℕ)) (r r' : Response) →
    Responds request contents r →
    Responds request contents r' →
    r ≡ r'
responds_once (link_to out options names) contents r r' h k =
    files_once (JobResponds out options) (job_once out options) options.entry names contents r r' h k
responds_once (show_file name) contents r r' h k = show_once name contents r r' h k
responds_once (run_image options image) contents r r' h k = run_once options.budget image options.input contents r r' h k
responds_once (check_job options run names) contents r r' h k =
    let input : List ℕ = input_in run.input names contents in
    check_once options run.budget names (files_in names contents) input (long_input run.input input) r r' h k

but_once : (missing : Option (List ℕ)) (request : Request) (contents : List (List ℕ)) (r r' : Response) →
    RespondsBut missing request contents r →
    RespondsBut missing request contents r' →
    r ≡ r'
but_once (Some name) request contents r r' h k = sym h ∙ k
but_once None request contents r r' h k = responds_once request contents r r' h k

-- over these files
pub one_response : (files : Files) (request : Request) (r r' : Response) →
    RespondsOver files request r →
    RespondsOver files request r' →
    r ≡ r'
one_response files request r r' h k =
    but_once (first_missing files (names_of request)) request (contents_in files (names_of request)) r r' h k
