-- A run of what was fetched is a run of the files.
use Rattle.std.proofs.Common.{◌≡◌, ◌≢◌, ℕ, ◌+◌, ◌<◌, ◌≤◌, inl, inr, List, [], ◌∷◌, length, take, Option, Some, None, refl, sym, ap, ◌∙◌, subst, arith, Vec}
use Rattle.std.specs.Prelude.{Result, IfOk, OnOk, MatchResult}
use Rattle.std.specs.declared.alloc.Global.{Global}
use Rattle.std.proofs.lemmas.Bool.{lt-ltb, le-ltb}
use Rattle.elf64_exec.specs.declared.layout.Segment.{Segment}
use Rattle.elf64_exec.specs.declared.layout.ExecFault.{ExecFault}
use Rattle.elf64_exec.specs.declared.layout.ExecFault.TheVariants.{Memory as NoRoom}
use Rattle.elf64_exec.specs.Loading.{HasFault, Loads}
use Rattle.elf64_records.specs.First.{◌orelse◌}
use Rattle.power_machine.specs.Runs.{Going, Done, Gone}
use Rattle.power_machine.specs.Steps.{NumberProgress}
use Rattle.ppc_bytes.specs.declared.memory.Memory.{Memory as NoMem}
use Rattle.ppc_outside.specs.Outside.{Files, StoreState, Holds, FetchFails}
use Rattle.ppclink.specs.declared.report.Report.{Report}
use Rattle.ppclink.specs.declared.report.Report.TheVariants.{Text, NoMemory}
use Rattle.ppclink.specs.Requests.{RunOptions, Request, run_image, with_input}
use Rattle.ppclink.specs.Lines.{too_long_line}
use Rattle.ppclink.specs.Runs.{Response, printed, image_limit, too_long, Executes, progress_response, exec_line}
use Rattle.ppclink.specs.Responses.{ComesTo}
use Rattle.ppclink.specs.Statuses.{Says, IsOfResponse, IsUnread, status_of}
use Rattle.ppclink.specs.inside.Fetched.{HasRead}
use Rattle.ppclink.specs.inside.Inputs.{HasInput, InputReport}
use Rattle.ppclink.specs.inside.Reports.{Causes, TextReport, RunSays, SaysRun}
use Rattle.ppclink.proofs.Coming.{cut, comes_held}
use Rattle.ppclink.proofs.RunInputs.{short_line, long_line_of, input_causes}
use Rattle.ppclink.proofs.Reporting.{keeps_same, text_stated, text_says, text_follows, text_causes, first_unread}

-- the status of a run
run_status : (p : NumberProgress) (status : ℕ) (text : List ℕ) → progress_response p ≡ printed status text → IsOfResponse status
run_status (Going r) status text is = subst IsOfResponse (ap status_of is) (inr (inr refl))
run_status (Done code r) status text is = subst IsOfResponse (ap status_of is) (inl (omega arith))
run_status (Gone reason r) status text is = subst IsOfResponse (ap status_of is) (inr (inl refl))

-- a program that was run
pub program_says : (name file input : List ℕ) (entry budget : ℕ) (segments : List Segment) (status : ℕ) (text : List ℕ) →
    Loads file entry segments →
    RunSays entry segments input budget status text →
    SaysRun name file input budget None status text
program_says name file input entry budget segments status text loads run = record {
  status_is = run_status run.progress status text run.is;
  executes = inr (record {
    progress = run.progress;
    runs = record { entry = entry; segments = segments; loads = loads; reaches = run.reaches };
    is = run.is;
  });
}

-- a file that is no executable
pub fault_report : (name file input : List ℕ) (budget : ℕ) (fault : ExecFault) (text : Result (Vec ℕ Global) NoMem) (a : Report) →
    HasFault file fault →
    IfOk text (λ t. t.items ≡ exec_line name fault) →
    OnOk text (fault ≢ NoRoom) →
    MatchResult text (λ t. a ≡ Text 1 t) (λ e. a ≡ NoMemory) →
    TextReport (SaysRun name file input budget None) a
fault_report name file input budget fault text a has line stated is =
    text_stated (SaysRun name file input budget None) (fault ≢ NoRoom) 1 (exec_line name fault) text a
    (λ real. record { status_is = inl (omega arith); executes = inl (record { fault = fault; has = has; real = real; is = refl }) })
    line stated is

-- the line for an executable that is too long
is_long : (name b : List ℕ) → image_limit < length b → too_long image_limit name b ≡ Some (too_long_line name)
is_long name b long = rw (lt-ltb image_limit (length b) long)

pub long_image : (image file given : List ℕ) (budget : ℕ) (text : Result (Vec ℕ Global) NoMem) (a : Report) →
    image_limit < length file →
    IfOk text (λ t. t.items ≡ too_long_line image) →
    MatchResult text (λ t. a ≡ Text 1 t) (λ e. a ≡ NoMemory) →
    TextReport (SaysRun image file given budget (too_long image_limit image file)) a
long_image image file given budget text a long line is =
    let says : SaysRun image file given budget (Some (too_long_line image)) 1 (too_long_line image) =
    record { status_is = inl (omega arith); executes = refl } in
    text_says (SaysRun image file given budget (too_long image_limit image file)) 1 (too_long_line image) text a
    (subst (λ o. SaysRun image file given budget o 1 (too_long_line image)) (sym (is_long image file long)) says) line is

pub short_image : (image file given : List ℕ) (budget : ℕ) (a : Report) →
    length file ≤ image_limit →
    TextReport (SaysRun image file given budget None) a →
    TextReport (SaysRun image file given budget (too_long image_limit image file)) a
short_image image file given budget a short report =
    let none : too_long image_limit image file ≡ None = rw (le-ltb image_limit (length file) short) in
    subst (λ o. TextReport (SaysRun image file given budget o) a) (sym none) report

-- one byte past the limit tells as much as the whole executable
cut_image : (image file whole given : List ℕ) (budget : ℕ) (r : Response) →
    file ≡ take (image_limit + 1) whole →
    Executes image file given budget (too_long image_limit image file) r →
    Executes image whole given budget (too_long image_limit image whole) r
cut_image image file whole given budget r is h =
    elim (cut image_limit file whole is) [
      | inl long ↦
          let here = subst (λ t. Executes image file given budget t r) (is_long image file long.0) h in
          subst (λ t. Executes image whole given budget t r) (sym (is_long image whole long.1)) here
      | inr same ↦ subst (λ b. Executes image b given budget (too_long image_limit image b) r) same h
    ]

-- a run of these options
abbrev pub run_with : List ℕ → Option (List ℕ) → ℕ → Request
run_with image input budget = run_image (record { input = input; budget = budget }) image

comes : (store : StoreState) (image file : List ℕ) (input : Option (List ℕ)) (given : List ℕ) (budget : ℕ) (r : Response) →
    HasRead store.told image_limit image file →
    HasInput store.told input given →
    Executes image file given budget (too_long image_limit image file) r →
    ComesTo store (Some (run_with image input budget)) r
comes store image file None given budget r read empty h =
    comes_held store.told (run_with image None budget) (read.whole ∷ []) r (read.holds, tt)
    (cut_image image file read.whole [] budget r read.cut
    (subst (λ b. Executes image file b budget (too_long image_limit image file) r) empty h))
comes store image file (Some name) given budget r read (holds, short) h =
    comes_held store.told (run_with image (Some name) budget) (read.whole ∷ given ∷ []) r (read.holds, (holds, tt))
    (subst (λ (o : Option (List ℕ)). Executes image read.whole given budget (o orelse too_long image_limit image read.whole) r)
    (sym (short_line name given short)) (cut_image image file read.whole given budget r read.cut h))

-- a run of an executable with its input
pub run_causes : (old new : StoreState) (image file : List ℕ) (input : Option (List ℕ)) (given : List ℕ) (budget : ℕ) (a : Report) →
    new ≡ old →
    HasRead old.told image_limit image file →
    HasInput old.told input given →
    TextReport (SaysRun image file given budget (too_long image_limit image file)) a →
    Causes old new (Some (run_with image input budget)) a
run_causes old new image file input given budget a same read has report =
    text_causes old new (Some (run_with image input budget)) a (keeps_same old new same)
    (text_follows (SaysRun image file given budget (too_long image_limit image file))
    (Says old new (Some (run_with image input budget))) a
    (λ status text says.
    inr (inr (record {
      status_is = says.status_is;
      comes = comes old image file input given budget (printed status text) read has says.executes;
      store = same;
    })))
    report)

-- or why there is no input
pub run_no_input : (old new : StoreState) (image file : List ℕ) (input : Option (List ℕ)) (budget : ℕ) (a : Report) →
    HasRead old.told image_limit image file →
    InputReport old new input a →
    Causes old new (Some (run_with image input budget)) a
run_no_input old new image file input budget a read report =
    input_causes old new (run_with image input budget) (image ∷ []) (read.whole ∷ []) input a refl (read.holds, tt)
    (λ name some given holds long.
    subst (λ (i : Option (List ℕ)). ComesTo old (Some (run_with image i budget)) (printed 1 (too_long_line name))) (sym some)
    (comes_held old.told (run_with image (Some name) budget) (read.whole ∷ given ∷ []) (printed 1 (too_long_line name))
    (read.holds, (holds, tt))
    (subst (λ (o : Option (List ℕ)). Executes image read.whole given budget (o orelse too_long image_limit image read.whole)
    (printed 1 (too_long_line name))) (sym (long_line_of name given long)) refl)))
    report

-- the executable is fetched before its input
pub image_unread : (old new : StoreState) (image : List ℕ) (input : Option (List ℕ)) →
    FetchFails old new image →
    IsUnread old new (with_input (image ∷ []) input) image
image_unread old new image None fails = first_unread old new image [] fails
image_unread old new image (Some input) fails = first_unread old new image (input ∷ []) fails

-- the store was the same before the executable was fetched
pub later_causes : (old now new : StoreState) (image : List ℕ) (options : RunOptions) (a : Report) →
    now ≡ old →
    Causes now new (Some (run_image options image)) a →
    Causes old new (Some (run_image options image)) a
later_causes old now new image options a same causes = subst (λ s. Causes s new (Some (run_image options image)) a) same causes
