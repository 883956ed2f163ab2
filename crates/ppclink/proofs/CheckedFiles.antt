-- A check of what was fetched is a check of the files.
use Rattle.std.proofs.Common.{◌≡◌, ℕ, ◌+◌, ◌<◌, ◌≤◌, inl, inr, List, [], ◌∷◌, ◌++◌, length, take, Option, Some, None, refl, sym, ap, ◌∙◌, subst, arith, suc}
use Rattle.std.specs.Prelude.{Result, Ok, Err, Contains, slice_index_or}
use Rattle.std.proofs.lemmas.List.Elements.{Contains-append_left}
use Rattle.std.proofs.Math.Seq.{take-append_seam, take-length, get_or-append_seam}
use Rattle.object_set.specs.declared.files.FileBytes.{FileBytes}
use Rattle.object_set.specs.Files.{contents_of}
use Rattle.link_engine.specs.Options.{LinkOptions}
use Rattle.ppc_archive.specs.Expand.{NamedFile, NamedRefusal, named_files, ChoosesTo}
use Rattle.ppc_outside.specs.Outside.{Files, StoreState, Holds}
use Rattle.ppclink.specs.declared.fetching.Unfetched.{Unfetched}
use Rattle.ppclink.specs.declared.report.Report.{Report}
use Rattle.ppclink.specs.Requests.{Request, check_job, with_input}
use Rattle.ppclink.specs.Lines.{too_long_line, fault_line}
use Rattle.ppclink.specs.Jobs.{fetched, names_of_files}
use Rattle.ppclink.specs.Runs.{Response, printed, input_limit, too_long, long_input}
use Rattle.ppclink.specs.Responses.{PlainResponds, FilesRespond, ChecksWith, ComesTo, files_in, input_in, first_missing, or_missing}
use Rattle.ppclink.specs.Statuses.{Says, IsFirstMissing}
use Rattle.ppclink.specs.inside.Fetched.{HaveRead, ManyCause}
use Rattle.ppclink.specs.inside.Inputs.{HasInput, InputReport}
use Rattle.ppclink.specs.inside.Reports.{Causes, TextReport, SaysFault, SaysPlain, SaysCheck, UnfetchedReport}
use Rattle.ppclink.proofs.Choosing.{wholes_read, files_whole, named_fetched, chosen}
use Rattle.ppclink.proofs.Coming.{AreFiles, comes_held}
use Rattle.ppclink.proofs.RunInputs.{short_line, long_line_of, one_more, input_causes}
use Rattle.ppclink.proofs.Reading.{rose_or}
use Rattle.ppclink.proofs.Reporting.{keeps_same, text_follows, text_causes, many_unread}

-- the plain run of the job that files come to
pub job_says : (options options' : LinkOptions) (budget : ℕ) (input : List ℕ) (files job items : List FileBytes) (a : Report) →
    options' ≡ options →
    items ≡ job →
    ChoosesTo (named_files files) options'.entry (Ok (named_files job)) →
    TextReport (SaysPlain options' budget input (named_files items)) a →
    TextReport (SaysCheck options budget input (names_of_files files) (contents_of files)) a
job_says options options' budget input files job items a same all chooses report =
    let names = names_of_files files in
    let contents = contents_of files in
    let comes : ChoosesTo (fetched names contents) options.entry (Ok (named_files job)) =
    chosen files options'.entry options.entry (Ok (named_files job)) (ap (λ (o : LinkOptions). o.entry) same) chooses in
    text_follows (SaysPlain options budget input (named_files job)) (SaysCheck options budget input names contents) a
    (λ status text says.
    record {
      status_is = says.status_is;
      responds = record { choice = Ok (named_files job); chooses = comes; is = says.responds };
    })
    (subst (λ (l : List FileBytes). TextReport (SaysPlain options budget input (named_files l)) a) all
    (subst (λ (o : LinkOptions). TextReport (SaysPlain o budget input (named_files items)) a) same report))

-- or their refusal
pub fault_says : (options options' : LinkOptions) (budget : ℕ) (input : List ℕ) (files : List FileBytes) (a : Report) →
    options' ≡ options →
    TextReport (SaysFault (named_files files) options'.entry) a →
    TextReport (SaysCheck options budget input (names_of_files files) (contents_of files)) a
fault_says options options' budget input files a same report =
    let names = names_of_files files in
    let contents = contents_of files in
    text_follows (SaysFault (named_files files) options.entry) (SaysCheck options budget input names contents) a
    (λ status text says.
    record {
      status_is = inl (let one = says.status_is in omega (arith, one));
      responds = record {
        choice = Err says.fault;
        chooses = subst (λ (l : List NamedFile). ChoosesTo l options.entry (Err says.fault)) (named_fetched files) says.chooses;
        is = ap (printed 1) (sym says.text_is) ∙ ap (λ (n : ℕ). printed n text) (sym says.status_is);
      };
    })
    (subst (λ (o : LinkOptions). TextReport (SaysFault (named_files files) o.entry) a) same report)

-- the contents of files, and the bytes of an input behind them
same_length : (told : Option Files) (names wholes : List (List ℕ)) → AreFiles told names wholes → length names ≡ length wholes
same_length told [] [] are = refl
same_length told [] (w ∷ wholes) are = absurd are
same_length told (n ∷ names) [] are = absurd are
same_length told (n ∷ names) (w ∷ wholes) (here, rest) = ap (λ (k : ℕ). suc k) (same_length told names wholes rest)

files_alone : (told : Option Files) (names wholes : List (List ℕ)) → AreFiles told names wholes → files_in names wholes ≡ wholes
files_alone told names wholes are = ap (λ (k : ℕ). take k wholes) (same_length told names wholes are) ∙ take-length wholes

files_before : (told : Option Files) (names wholes : List (List ℕ)) (given : List ℕ) →
    AreFiles told names wholes →
    files_in names (wholes ++ given ∷ []) ≡ wholes
files_before told names wholes given are =
    ap (λ (k : ℕ). take k (wholes ++ given ∷ [])) (same_length told names wholes are) ∙ take-append_seam wholes (given ∷ [])

input_behind : (told : Option Files) (names wholes : List (List ℕ)) (given : List ℕ) →
    AreFiles told names wholes →
    slice_index_or (wholes ++ given ∷ []) (length names) [] ≡ given
input_behind told names wholes given are =
    ap (λ (k : ℕ). slice_index_or (wholes ++ given ∷ []) k []) (same_length told names wholes are)
    ∙ get_or-append_seam wholes given [] []

-- a check of these options
abbrev pub check_with : LinkOptions → List (List ℕ) → Option (List ℕ) → ℕ → Request
check_with options names input budget = check_job options (record { input = input; budget = budget }) names

module _ (options : LinkOptions) (budget : ℕ) (names : List (List ℕ)) (r : Response) where
  -- what is checked with an input behind its files
  checks_behind : (told : Option Files) (wholes : List (List ℕ)) (name given : List ℕ) (long : Option (List ℕ)) →
      AreFiles told names wholes →
      too_long input_limit name given ≡ long →
      ChecksWith options budget names wholes given long r →
      ChecksWith options budget names (files_in names (wholes ++ given ∷ [])) (input_in (Some name) names (wholes ++ given ∷ []))
      (long_input (Some name) (input_in (Some name) names (wholes ++ given ∷ []))) r
  checks_behind told wholes name given long are is checks =
      subst (λ (b : List ℕ). ChecksWith options budget names (files_in names (wholes ++ given ∷ [])) b (too_long input_limit name b) r)
      (sym (input_behind told names wholes given are))
      (subst (λ (l : List (List ℕ)). ChecksWith options budget names l given (too_long input_limit name given) r)
      (sym (files_before told names wholes given are))
      (subst (λ (o : Option (List ℕ)). ChecksWith options budget names wholes given o r) (sym is) checks))

  comes_alone : (store : StoreState) (wholes : List (List ℕ)) →
      AreFiles store.told names wholes →
      FilesRespond (PlainResponds options budget []) options.entry names wholes r →
      ComesTo store (Some (check_with options names None budget)) r
  comes_alone store wholes are responds =
      comes_held store.told (check_with options names None budget) wholes r are
      (subst (λ (l : List (List ℕ)). FilesRespond (PlainResponds options budget []) options.entry names l r)
      (sym (files_alone store.told names wholes are)) responds)

  comes_behind : (store : StoreState) (wholes : List (List ℕ)) (name given : List ℕ) (long : Option (List ℕ)) →
      AreFiles store.told names wholes →
      Holds store.told name given →
      too_long input_limit name given ≡ long →
      ChecksWith options budget names wholes given long r →
      ComesTo store (Some (check_with options names (Some name) budget)) r
  comes_behind store wholes name given long are holds is checks =
      comes_held store.told (check_with options names (Some name) budget) (wholes ++ given ∷ []) r
      (one_more store.told names wholes name given are holds)
      (checks_behind store.told wholes name given long are is checks)

  -- what was read comes to what the files come to
  comes : (store : StoreState) (contents : List (List ℕ)) (input : Option (List ℕ)) (given : List ℕ) →
      HaveRead store.told names contents →
      HasInput store.told input given →
      FilesRespond (PlainResponds options budget given) options.entry names contents r →
      ComesTo store (Some (check_with options names input budget)) r
  comes store contents None given read empty responds =
      let held = wholes_read store.told names contents read in
      comes_alone store held.wholes held.are
      (files_whole store.told (PlainResponds options budget []) options.entry names contents held r
      (subst (λ (b : List ℕ). FilesRespond (PlainResponds options budget b) options.entry names contents r) empty responds))
  comes store contents (Some name) given read (holds, short) responds =
      let held = wholes_read store.told names contents read in
      comes_behind store held.wholes name given None held.are holds (short_line name given short)
      (files_whole store.told (PlainResponds options budget given) options.entry names contents held r responds)

-- a check of files with its input
pub check_causes : (old new : StoreState) (options : LinkOptions) (names contents : List (List ℕ)) (input : Option (List ℕ))
    (given : List ℕ) (budget : ℕ) (a : Report) →
    new ≡ old →
    HaveRead old.told names contents →
    HasInput old.told input given →
    TextReport (SaysCheck options budget given names contents) a →
    Causes old new (Some (check_with options names input budget)) a
check_causes old new options names contents input given budget a same read has report =
    text_causes old new (Some (check_with options names input budget)) a (keeps_same old new same)
    (text_follows (SaysCheck options budget given names contents) (Says old new (Some (check_with options names input budget))) a
    (λ status text says.
    inr (inr (record {
      status_is = says.status_is;
      comes = comes options budget names (printed status text) old contents input given read has says.responds;
      store = same;
    })))
    report)

-- or why there is no input
pub check_no_input : (old new : StoreState) (options : LinkOptions) (names contents : List (List ℕ)) (input : Option (List ℕ))
    (budget : ℕ) (a : Report) →
    HaveRead old.told names contents →
    InputReport old new input a →
    Causes old new (Some (check_with options names input budget)) a
check_no_input old new options names contents input budget a read report =
    let held = wholes_read old.told names contents read in
    input_causes old new (check_with options names input budget) names held.wholes input a refl held.are
    (λ name some given holds long.
    subst (λ (i : Option (List ℕ)). ComesTo old (Some (check_with options names i budget)) (printed 1 (too_long_line name))) (sym some)
    (comes_behind options budget names (printed 1 (too_long_line name)) old held.wholes name given (Some (too_long_line name)) held.are
    holds (long_line_of name given long) refl))
    report

-- a name that is missing is missing before others too
missing_before : (files : Files) (names more : List (List ℕ)) (name : List ℕ) →
    first_missing files names ≡ Some name →
    first_missing files (names ++ more) ≡ Some name
missing_before files [] more name is = cc
missing_before files (n ∷ names) more name is = by_first (files n) (missing_before files names more name) is
  where
    by_first : (o : Option (List ℕ)) →
        (first_missing files names ≡ Some name → first_missing files (names ++ more) ≡ Some name) →
        or_missing o n (first_missing files names) ≡ Some name →
        or_missing o n (first_missing files (names ++ more)) ≡ Some name
    by_first None later h = h
    by_first (Some bytes) later h = later h

absent_before : (told : Option Files) (names : List (List ℕ)) (input : Option (List ℕ)) (name : List ℕ) →
    IsFirstMissing told names name →
    IsFirstMissing told (with_input names input) name
absent_before None names input name is = absurd is
absent_before (Some files) names None name is = is
absent_before (Some files) names (Some given) name is = missing_before files names (given ∷ []) name is

among_before : (names : List (List ℕ)) (input : Option (List ℕ)) (name : List ℕ) →
    Contains names name →
    Contains (with_input names input) name
among_before names None name among = among
among_before names (Some given) name among = Contains-append_left names (given ∷ []) name among

-- or why its files can't be read
pub check_unread : (old new : StoreState) (options : LinkOptions) (names : List (List ℕ)) (input : Option (List ℕ)) (budget : ℕ)
    (cause : Unfetched) (a : Report) →
    ManyCause old new names cause →
    UnfetchedReport names cause a →
    Causes old new (Some (check_with options names input budget)) a
check_unread old new options names input budget cause a causes report =
    many_unread old new (Some (check_with options names input budget)) names cause a
    (λ name unread.
    record {
      among = among_before names input name unread.among;
      cause = rose_or _ _ _ _ (absent_before old.told names input name) unread.cause;
      kept = unread.kept;
    })
    causes report
