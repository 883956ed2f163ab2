-- What is printed of a plain run is what it came to.
use Rattle.std.proofs.Common.{◌≡◌, ◌≢◌, ◌⊎◌, ℕ, inl, inr, List, [], ◌++◌, refl, sym, ap, ◌∙◌, subst, arith, Vec}
use Rattle.std.specs.Prelude.{drop, Result, Ok, Err, IfOk, OnOk, MatchResult}
use Rattle.std.specs.declared.alloc.Global.{Global}
use Rattle.object_set.specs.declared.files.FileBytes.{FileBytes}
use Rattle.object_set.specs.declared.places.SectionId.{SectionId}
use Rattle.object_set.specs.declared.refusal.Refusal.{Refusal}
use Rattle.object_set.specs.declared.refusal.Refusal.TheVariants.{Memory}
use Rattle.object_set.specs.Files.{contents_of}
use Rattle.call_sites.specs.Sites.{text_section}
use Rattle.power_machine.specs.declared.world.Event.{Event}
use Rattle.power_machine.specs.declared.world.World.{World}
use Rattle.power_machine.specs.declared.world.Answer.{Answer}
use Rattle.power_machine.specs.Runs.{Going, Done, Gone, run_in}
use Rattle.plain_machine.specs.Actions.{PlainProgress}
use Rattle.plain_run.specs.declared.plain.PlainOutcome.{PlainOutcome}
use Rattle.link_engine.specs.declared.plain.PlainEnd.{PlainEnd}
use Rattle.link_engine.specs.Link.{LinksTo}
use Rattle.link_engine.specs.Plain.{IsPlainEnd, PlainRunsTo, outcome_of, section_left}
use Rattle.link_engine.specs.Options.{LinkOptions}
use Rattle.ppc_archive.specs.Expand.{named_files}
use Rattle.ppc_bytes.specs.declared.memory.Memory.{Memory as NoRoom}
use Rattle.ppclink.specs.declared.report.Report.{Report}
use Rattle.ppclink.specs.declared.report.Report.TheVariants.{Text, NoMemory}
use Rattle.ppclink.specs.Jobs.{names_of_files, names_in_job, contents_in_job}
use Rattle.ppclink.specs.Lines.{name_in, offset_text, refusal_line}
use Rattle.ppclink.specs.Runs.{printed, event_lines, exit_line, left_line, budget_line, response_by}
use Rattle.ppclink.specs.Responses.{PlainResponds, code_place_text, plain_response}
use Rattle.ppclink.specs.Statuses.{IsOfResponse}
use Rattle.ppclink.specs.inside.Reports.{TextReport, SaysPlain, SaysPlainEnd}
use Rattle.ppclink.proofs.Choosing.{named_contents, named_names}
use Rattle.ppclink.proofs.Reporting.{text_stated}

-- a status and a text are those of a response
told : (status wanted : ℕ) (text line : List ℕ) → status ≡ wanted → text ≡ line → printed wanted line ≡ printed status text
told status wanted text line is also = ap (printed wanted) (sym also) ∙ ap (λ (n : ℕ). printed n text) (sym is)

-- what is said of how far a run went, by the section of the place where it left
abbrev pub SaysOf : List (List ℕ) → List (List ℕ) → SectionId → PlainProgress → ℕ → List ℕ → Type 0
SaysOf names files s p status text =
    SaysPlainEnd (name_in names s.file) s.section (run_in p).events (outcome_of p) status text

says_response : (names files : List (List ℕ)) (p : PlainProgress) (status : ℕ) (text : List ℕ) →
    SaysOf names files (section_left files (outcome_of p)) p status text →
    response_by (code_place_text names files) p ≡ printed status text
says_response names files (Going r) status text (is, also) = told status 7 text (event_lines r.events ++ budget_line) is also
says_response names files (Done code r) status text (is, also) = told status 0 text (event_lines r.events ++ exit_line code) is also
says_response names files (Gone reason r) status text (is, also) =
    told status 6 text (event_lines r.events ++ left_line reason (code_place_text names files r.state.at)) is also

says_status : (names files : List (List ℕ)) (s : SectionId) (p : PlainProgress) (status : ℕ) (text : List ℕ) →
    SaysOf names files s p status text →
    IsOfResponse status
says_status names files s (Going r) status text says = inr (inr says.0)
says_status names files s (Done code r) status text says = inl (let zero_is = says.0 in omega (arith, zero_is))
says_status names files s (Gone reason r) status text says = inr (inl says.0)

-- what is said of an end is said of how far its run went
says_end : (names files : List (List ℕ)) (p : PlainProgress) (file own status : ℕ) (events : List Event) (o : PlainOutcome)
    (text : List ℕ) →
    o ≡ outcome_of p →
    events ≡ (run_in p).events →
    file ≡ (section_left files o).file →
    own ≡ (section_left files o).section →
    SaysPlainEnd (name_in names file) own events o status text →
    SaysOf names files (section_left files (outcome_of p)) p status text
says_end names files p file own status events o text outcome made in_file in_section says =
    let here : SaysPlainEnd (name_in names (section_left files o).file) (section_left files o).section events o status text =
    subst (λ (n : ℕ). SaysPlainEnd (name_in names (section_left files o).file) n events o status text) in_section
    (subst (λ (n : ℕ). SaysPlainEnd (name_in names n) own events o status text) in_file says) in
    let over : SaysPlainEnd (name_in names (section_left files o).file) (section_left files o).section (run_in p).events o status text =
    subst (λ (l : List Event). SaysPlainEnd (name_in names (section_left files o).file) (section_left files o).section l o status text)
    made here in
    subst (λ (e : PlainOutcome). SaysPlainEnd (name_in names (section_left files e).file) (section_left files e).section
    (run_in p).events e status text) outcome over

-- what is printed of the end of a job's plain run is what the job comes to
pub plain_says : (options : LinkOptions) (budget n : ℕ) (job : List FileBytes) (input : List ℕ) (old new : World) (end : PlainEnd)
    (status : ℕ) (text : List ℕ) →
    drop old.taken old.input.items ≡ input →
    drop old.used old.answers.items ≡ [] →
    n ≡ budget →
    IsPlainEnd (contents_of job) options n old new end →
    SaysPlainEnd (name_in (names_of_files job) end.file) end.section end.events.items end.outcome status text →
    SaysPlain options budget input (named_files job) status text
plain_says options budget n job input old new end status text given answers count is says =
    let names = names_of_files job in
    let files = contents_of job in
    let far : SaysOf names files (section_left files (outcome_of is.progress)) is.progress status text =
    says_end names files is.progress end.file end.section status end.events.items end.outcome text is.outcome is.events is.file
    is.section says in
    let with_input : PlainRunsTo files options input (drop old.used old.answers.items) n is.progress =
    subst (λ (l : List ℕ). PlainRunsTo files options l (drop old.used old.answers.items) n is.progress) given is.runs in
    let with_answers : PlainRunsTo files options input [] n is.progress =
    subst (λ (l : List Answer). PlainRunsTo files options input l n is.progress) answers with_input in
    let in_steps : PlainRunsTo files options input [] budget is.progress =
    subst (λ (k : ℕ). PlainRunsTo files options input [] k is.progress) count with_answers in
    let named : response_by (code_place_text (names_in_job (named_files job)) (contents_in_job (named_files job))) is.progress
    ≡ printed status text =
    ap (λ (l : List (List ℕ)). response_by (code_place_text l (contents_in_job (named_files job))) is.progress) (sym (named_names job))
    ∙ ap (λ (l : List (List ℕ)). response_by (code_place_text names l) is.progress) (sym (named_contents job))
    ∙ says_response names files is.progress status text far in
    record {
      status_is = says_status names files (section_left files (outcome_of is.progress)) is.progress status text far;
      responds = record {
        outcome = Ok is.progress;
        comes = subst (λ (l : List (List ℕ)). PlainRunsTo l options input [] budget is.progress) (named_contents job) in_steps;
        is = named;
      };
    }

-- so it is of a refusal other than want of memory
refuse_says : (options : LinkOptions) (budget : ℕ) (job : List FileBytes) (input : List ℕ) (r : Refusal) →
    (r ≡ Memory) ⊎ LinksTo (contents_of job) options (Err r) →
    r ≢ Memory →
    SaysPlain options budget input (named_files job) 1 (refusal_line (names_of_files job) r)
refuse_says options budget job input r (inl memory) stated = absurd (stated memory)
refuse_says options budget job input r (inr links) stated = record {
  status_is = inl (omega arith);
  responds = record {
    outcome = Err r;
    comes = subst (λ (l : List (List ℕ)). LinksTo l options (Err r)) (named_contents job) links;
    is = ap (λ (l : List (List ℕ)). printed 1 (refusal_line l r)) (sym (named_names job));
  };
}

pub refuse_report : (options : LinkOptions) (budget : ℕ) (job : List FileBytes) (input : List ℕ) (r : Refusal)
    (text : Result (Vec ℕ Global) NoRoom) (a : Report) →
    (r ≡ Memory) ⊎ LinksTo (contents_of job) options (Err r) →
    IfOk text (λ t. t.items ≡ refusal_line (names_of_files job) r) →
    OnOk text (r ≢ Memory) →
    MatchResult text (λ t. a ≡ Text 1 t) (λ e. a ≡ NoMemory) →
    TextReport (SaysPlain options budget input (named_files job)) a
refuse_report options budget job input r text a refused line stated is =
    text_stated (SaysPlain options budget input (named_files job)) (r ≢ Memory) 1 (refusal_line (names_of_files job) r) text a
    (refuse_says options budget job input r refused) line stated is
