-- A link of what was fetched is a link of the files.
use Rattle.std.proofs.Common.{◌≡◌, ◌≢◌, ℕ, ◌+◌, ◌≤◌, ◌⊎◌, inl, inr, List, Option, Some, refl, sym, ap, ◌∙◌, subst, arith, Vec}
use Rattle.std.specs.Prelude.{Result, Ok, Err, IfOk, OnOk, MatchResult}
use Rattle.std.specs.declared.alloc.Global.{Global}
use Rattle.object_set.specs.declared.refusal.Refusal.{Refusal}
use Rattle.object_set.specs.declared.refusal.Refusal.TheVariants.{Memory}
use Rattle.object_set.specs.declared.files.FileBytes.{FileBytes}
use Rattle.object_set.specs.Files.{contents_of}
use Rattle.link_engine.specs.Link.{LinksTo, placement_limit}
use Rattle.link_engine.specs.Options.{LinkOptions}
use Rattle.ppc_archive.specs.Expand.{NamedFile, NamedRefusal, named_files, ChoosesTo}
use Rattle.ppc_bytes.specs.declared.memory.Memory.{Memory as NoRoom}
use Rattle.ppc_outside.specs.Outside.{Files, StoreState}
use Rattle.ppclink.specs.declared.report.Report.{Report}
use Rattle.ppclink.specs.declared.report.Report.TheVariants.{Text, Written, Unwritten, NoMemory}
use Rattle.ppclink.specs.Requests.{link_to}
use Rattle.ppclink.specs.Lines.{refusal_line, fault_line}
use Rattle.ppclink.specs.Jobs.{fetched, contents_in_job, names_of_files}
use Rattle.ppclink.specs.Runs.{Response, printed, written}
use Rattle.ppclink.specs.Responses.{JobResponds, ChoiceResponds, FilesRespond, ComesTo}
use Rattle.ppclink.specs.Statuses.{Says, CountsFor}
use Rattle.ppclink.specs.inside.Fetched.{HaveRead}
use Rattle.ppclink.specs.inside.Reports.{Causes, ReplaceReport, TextReport, JobReport, SaysJob, SaysFault}
use Rattle.ppclink.proofs.Choosing.{wholes_read, files_whole, named_contents, named_names, named_fetched, chosen, choice_counts}
use Rattle.ppclink.proofs.Coming.{comes_held}
use Rattle.ppclink.proofs.Reporting.{keeps_same, keeps_unchanged, text_stated, text_follows, text_causes}

-- the files of a link, from what was read of them
pub comes : (store : StoreState) (out : List ℕ) (options : LinkOptions) (names contents : List (List ℕ)) (response : Response) →
    HaveRead store.told names contents →
    FilesRespond (JobResponds out options) options.entry names contents response →
    ComesTo store (Some (link_to out options names)) response
comes store out options names contents response read responds =
    let held = wholes_read store.told names contents read in
    comes_held store.told (link_to out options names) held.wholes response held.are
    (files_whole store.told (JobResponds out options) options.entry names contents held response responds)

-- the executable takes the place of its file, or couldn't
pub write_report : (old new : StoreState) (out image : List ℕ) (options : LinkOptions) (job : List FileBytes) (a : Report) →
    LinksTo (contents_of job) options (Ok image) →
    ReplaceReport old new out image a →
    JobReport old new out options (named_files job) a
write_report old new out image options job a links report = by_report a report
  where
    responds : JobResponds out options (named_files job) (written out image)
    responds = record {
      outcome = Ok image;
      links = subst (λ (l : List (List ℕ)). LinksTo l options (Ok image)) (named_contents job) links;
      is = refl;
    }

    by_report : (a : Report) → ReplaceReport old new out image a → JobReport old new out options (named_files job) a
    by_report Written stored = record { image = image; responds = responds; stored = stored }
    by_report Unwritten failed = record { image = image; responds = responds; stored = failed }
    by_report NoMemory kept = keeps_unchanged old new kept
    by_report (Text status text) none = absurd none

text_job : (old new : StoreState) (out : List ℕ) (options : LinkOptions) (job : List NamedFile) (a : Report) → new ≡ old →
    TextReport (SaysJob out options job) a → JobReport old new out options job a
text_job old new out options job (Text status text) kept says = (says, kept)
text_job old new out options job NoMemory kept says = keeps_same old new kept
text_job old new out options job Written kept says = absurd says
text_job old new out options job Unwritten kept says = absurd says

-- a refusal other than want of memory is what the job comes to
refuse_says : (out : List ℕ) (options : LinkOptions) (job : List FileBytes) (r : Refusal) →
    (r ≡ Memory) ⊎ LinksTo (contents_of job) options (Err r) →
    r ≢ Memory →
    SaysJob out options (named_files job) 1 (refusal_line (names_of_files job) r)
refuse_says out options job r (inl memory) stated = absurd (stated memory)
refuse_says out options job r (inr links) stated = record {
  status_is = refl;
  responds = record {
    outcome = Err r;
    links = subst (λ (l : List (List ℕ)). LinksTo l options (Err r)) (named_contents job) links;
    is = ap (λ (l : List (List ℕ)). printed 1 (refusal_line l r)) (sym (named_names job));
  };
}

pub refuse_report : (old new : StoreState) (out : List ℕ) (options : LinkOptions) (job : List FileBytes) (r : Refusal)
    (text : Result (Vec ℕ Global) NoRoom) (a : Report) →
    new ≡ old →
    (r ≡ Memory) ⊎ LinksTo (contents_of job) options (Err r) →
    IfOk text (λ t. t.items ≡ refusal_line (names_of_files job) r) →
    OnOk text (r ≢ Memory) →
    MatchResult text (λ t. a ≡ Text 1 t) (λ e. a ≡ NoMemory) →
    JobReport old new out options (named_files job) a
refuse_report old new out options job r text a kept refused line stated is =
    text_job old new out options (named_files job) a kept
    (text_stated (SaysJob out options (named_files job)) (r ≢ Memory) 1 (refusal_line (names_of_files job) r) text a
    (refuse_says out options job r refused) line stated is)

-- why a job's link is reported so, from what was read of its files
module _ (old new : StoreState) (out : List ℕ) (options : LinkOptions) (names contents : List (List ℕ)) where
  comes_by : (choice : Result (List NamedFile) NamedRefusal) (response : Response) →
      HaveRead old.told names contents →
      ChoosesTo (fetched names contents) options.entry choice →
      ChoiceResponds (JobResponds out options) choice response →
      ComesTo old (Some (link_to out options names)) response
  comes_by choice response read chooses responds =
      comes old out options names contents response read (record { choice = choice; chooses = chooses; is = responds })

  job_causes : (job : List NamedFile) (a : Report) →
      HaveRead old.told names contents →
      ChoosesTo (fetched names contents) options.entry (Ok job) →
      JobReport old new out options job a →
      Causes old new (Some (link_to out options names)) a
  job_causes job (Text status text) read chooses (says, kept) =
      inr (inr (record {
        status_is = inl (let one = says.status_is in omega (arith, one));
        comes = comes_by (Ok job) (printed status text.items) read chooses says.responds;
        store = kept;
      }))
  job_causes job Written read chooses gives = record {
    out = out;
    image = gives.image;
    named = refl;
    comes = comes_by (Ok job) (written out gives.image) read chooses gives.responds;
    store = gives.stored;
  }
  job_causes job Unwritten read chooses gives = record {
    out = out;
    image = gives.image;
    named = refl;
    comes = comes_by (Ok job) (written out gives.image) read chooses gives.responds;
    store = gives.stored;
  }
  job_causes job NoMemory read chooses kept = kept

  -- and why the refusal of files is
  fault_says : (files : List NamedFile) (status : ℕ) (text : List ℕ) →
      new ≡ old →
      HaveRead old.told names contents →
      files ≡ fetched names contents →
      SaysFault files options.entry status text →
      Says old new (Some (link_to out options names)) status text
  fault_says files status text kept read are says =
      let response : Response = printed status text in
      let told : printed 1 (fault_line says.fault) ≡ response =
      ap (printed 1) (sym says.text_is) ∙ ap (λ (n : ℕ). printed n text) (sym says.status_is) in
      let chooses : ChoosesTo (fetched names contents) options.entry (Err says.fault) =
      subst (λ (l : List NamedFile). ChoosesTo l options.entry (Err says.fault)) are says.chooses in
      inr (inr (record {
        status_is = inl (let one = says.status_is in omega (arith, one));
        comes = comes_by (Err says.fault) response read chooses told;
        store = kept;
      }))

-- the job that files come to is linked
pub job_goes : (old new : StoreState) (out : List ℕ) (options options' : LinkOptions) (files job items : List FileBytes) (a : Report) →
    options' ≡ options →
    items ≡ job →
    HaveRead old.told (names_of_files files) (contents_of files) →
    ChoosesTo (named_files files) options'.entry (Ok (named_files job)) →
    JobReport old new out options' (named_files items) a →
    Causes old new (Some (link_to out options (names_of_files files))) a
job_goes old new out options options' files job items a same all read chooses report =
    job_causes old new out options (names_of_files files) (contents_of files) (named_files job) a read
    (chosen files options'.entry options.entry (Ok (named_files job)) (ap (λ (o : LinkOptions). o.entry) same) chooses)
    (subst (λ (l : List FileBytes). JobReport old new out options (named_files l) a) all
    (subst (λ (o : LinkOptions). JobReport old new out o (named_files items) a) same report))

-- and counts as it does
pub job_counts : (options options' : LinkOptions) (files job items : List FileBytes) (old new : ℕ) →
    options' ≡ options →
    items ≡ job →
    ChoosesTo (named_files files) options'.entry (Ok (named_files job)) →
    new ≤ old + placement_limit (contents_of items) options' →
    CountsFor options (names_of_files files) (contents_of files) old new
job_counts options options' files job items old new same all chooses most =
    let here : new ≤ old + placement_limit (contents_in_job (named_files job)) options =
    subst (λ (l : List (List ℕ)). new ≤ old + placement_limit l options) (ap contents_of all ∙ named_contents job)
    (subst (λ (o : LinkOptions). new ≤ old + placement_limit (contents_of items) o) same most) in
    choice_counts options (names_of_files files) (contents_of files) (Ok (named_files job)) old new
    (chosen files options'.entry options.entry (Ok (named_files job)) (ap (λ (o : LinkOptions). o.entry) same) chooses) here

-- their refusal is told by its line
pub fault_goes : (old : StoreState) (out : List ℕ) (options options' : LinkOptions) (files : List FileBytes) (a : Report) →
    options' ≡ options →
    HaveRead old.told (names_of_files files) (contents_of files) →
    TextReport (SaysFault (named_files files) options'.entry) a →
    Causes old old (Some (link_to out options (names_of_files files))) a
fault_goes old out options options' files a same read report =
    let names = names_of_files files in
    let contents = contents_of files in
    text_causes old old (Some (link_to out options names)) a (keeps_same old old refl)
    (text_follows (SaysFault (named_files files) options.entry) (Says old old (Some (link_to out options names))) a
    (λ status text says. fault_says old old out options names contents (named_files files) status text refl read (named_fetched files) says)
    (subst (λ (o : LinkOptions). TextReport (SaysFault (named_files files) o.entry) a) same report))
