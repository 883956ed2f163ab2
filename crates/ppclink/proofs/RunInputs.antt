-- The input of a run, which is fetched behind all other files, from what was read of it.
use Rattle.std.proofs.Common.{◌≡◌, ℕ, ◌+◌, ◌<◌, ◌≤◌, ◌⊎◌, inl, inr, List, [], ◌∷◌, ◌++◌, length, Option, Some, None, refl, sym, ap, ◌∙◌, subst, arith, Vec}
use Rattle.std.specs.Prelude.{Result, IfOk, MatchResult, Contains}
use Rattle.std.specs.declared.alloc.Global.{Global}
use Rattle.std.proofs.lemmas.Bool.{lt-ltb, le-ltb}
use Rattle.std.proofs.lemmas.List.Elements.{Contains-append_right}
use Rattle.ppc_bytes.specs.declared.memory.Memory.{Memory as NoRoom}
use Rattle.ppc_outside.specs.Outside.{Files, StoreState, Holds, Lacks, FetchFails}
use Rattle.ppclink.specs.declared.report.Report.{Report}
use Rattle.ppclink.specs.declared.report.Report.TheVariants.{Text, Written, Unwritten, NoMemory}
use Rattle.ppclink.specs.Requests.{Request, names_of, names_asked, with_input}
use Rattle.ppclink.specs.Lines.{too_long_line}
use Rattle.ppclink.specs.Runs.{Response, printed, input_limit, too_long}
use Rattle.ppclink.specs.Responses.{ComesTo, first_missing, or_missing}
use Rattle.ppclink.specs.Statuses.{KeepsFiles, Says, IsUnread, IsFirstMissing}
use Rattle.ppclink.specs.inside.Fetched.{HasRead}
use Rattle.ppclink.specs.inside.Inputs.{HasInput, SaysNoInput, SaysLongInput, NamedInputReport, InputReport}
use Rattle.ppclink.specs.inside.Reports.{Causes, TextReport}
use Rattle.ppclink.proofs.Coming.{AreFiles, cut}
use Rattle.ppclink.proofs.Reading.{rose_or}
use Rattle.ppclink.proofs.Reporting.{keeps_same, text_says}

-- what was read of a file that isn't too long is the file
pub short_input : (told : Option Files) (name given : List ℕ) (input : Option (List ℕ)) →
    input ≡ Some name →
    HasRead told input_limit name given →
    length given ≤ input_limit →
    HasInput told input given
short_input told name given input some read short =
    let whole : Holds told name given = elim (cut input_limit given read.whole read.cut) [
      | inl long ↦ absurd (omega (arith, short, long.0))
      | inr same ↦ subst (λ b. Holds told name b) (sym same) read.holds
    ] in
    subst (λ i. HasInput told i given) (sym some) (whole, short)

-- a text tells why there is no input
input_report : (old new : StoreState) (name : List ℕ) (a : Report) →
    KeepsFiles old new →
    TextReport (λ status text. SaysNoInput old new name status text ⊎ SaysLongInput old new name status text) a →
    NamedInputReport old new name a
input_report old new name (Text status text) keeps says = says
input_report old new name NoMemory keeps says = keeps
input_report old new name Written keeps says = says
input_report old new name Unwritten keeps says = says

pub long_report : (old new : StoreState) (name given : List ℕ) (input : Option (List ℕ)) (text : Result (Vec ℕ Global) NoRoom)
    (a : Report) →
    input ≡ Some name →
    new ≡ old →
    HasRead old.told input_limit name given →
    input_limit < length given →
    IfOk text (λ t. t.items ≡ too_long_line name) →
    MatchResult text (λ t. a ≡ Text 1 t) (λ e. a ≡ NoMemory) →
    InputReport old new input a
long_report old new name given input text a some same read long line is =
    let whole : input_limit < length read.whole = elim (cut input_limit given read.whole read.cut) [
      | inl both ↦ both.1
      | inr one ↦ subst (λ (b : List ℕ). input_limit < length b) one long
    ] in
    let says : SaysLongInput old new name 1 (too_long_line name) = record {
      whole = read.whole;
      holds = read.holds;
      long = whole;
      status_is = refl;
      text_is = refl;
      store = same;
    } in
    subst (λ i. InputReport old new i a) (sym some)
    (input_report old new name a (keeps_same old new same)
    (text_says (λ status text. SaysNoInput old new name status text ⊎ SaysLongInput old new name status text) 1 (too_long_line name) text
    a (inr says) line is))

-- an input that isn't too long has no line, and one that is has its line
pub short_line : (name given : List ℕ) → length given ≤ input_limit → too_long input_limit name given ≡ None
short_line name given short = rw (le-ltb input_limit (length given) short)

pub long_line_of : (name given : List ℕ) → input_limit < length given → too_long input_limit name given ≡ Some (too_long_line name)
long_line_of name given long = rw (lt-ltb input_limit (length given) long)

-- one file more
pub one_more : (told : Option Files) (names wholes : List (List ℕ)) (name given : List ℕ) →
    AreFiles told names wholes →
    Holds told name given →
    AreFiles told (names ++ name ∷ []) (wholes ++ given ∷ [])
one_more told [] [] name given are holds = (holds, tt)
one_more told [] (w ∷ wholes) name given are holds = absurd are
one_more told (n ∷ names) [] name given are holds = absurd are
one_more told (n ∷ names) (w ∷ wholes) name given (here, rest) holds = (here, one_more told names wholes name given rest holds)

-- a name that is absent behind names that aren't
missing_last : (files : Files) (names wholes : List (List ℕ)) (name : List ℕ) →
    AreFiles (Some files) names wholes →
    files name ≡ None →
    first_missing files (names ++ name ∷ []) ≡ Some name
missing_last files [] [] name are none = ap (λ o. or_missing o name None) none
missing_last files [] (w ∷ wholes) name are none = absurd are
missing_last files (n ∷ names) [] name are none = absurd are
missing_last files (n ∷ names) (w ∷ wholes) name (here, rest) none =
    ap (λ o. or_missing o n (first_missing files (names ++ name ∷ []))) here ∙ missing_last files names wholes name rest none

absent_last : (told : Option Files) (names wholes : List (List ℕ)) (name : List ℕ) →
    AreFiles told names wholes →
    Lacks told name →
    IsFirstMissing told (names ++ name ∷ []) name
absent_last None names wholes name are lacks = absurd lacks
absent_last (Some files) names wholes name are lacks = missing_last files names wholes name are lacks

pub last_unread : (old new : StoreState) (names wholes : List (List ℕ)) (name : List ℕ) →
    AreFiles old.told names wholes →
    FetchFails old new name →
    IsUnread old new (names ++ name ∷ []) name
last_unread old new names wholes name are fails = record {
  among = Contains-append_right names (name ∷ []) name (0, omega arith, refl);
  cause = rose_or _ _ _ _ (absent_last old.told names wholes name are) fails.cause;
  kept = fails.kept;
}

-- what a request comes to whose input is too long: its line
abbrev pub RefusesLong : StoreState → Request → List ℕ → Type 0
RefusesLong store request name =
    (given : List ℕ) →
    Holds store.told name given →
    input_limit < length given →
    ComesTo store (Some request) (printed 1 (too_long_line name))

named_causes : (old new : StoreState) (request : Request) (names wholes : List (List ℕ)) (name : List ℕ) (a : Report) →
    names_of request ≡ names ++ name ∷ [] →
    AreFiles old.told names wholes →
    RefusesLong old request name →
    NamedInputReport old new name a →
    Causes old new (Some request) a
named_causes old new request names wholes name (Text status text) asked are refuses (inl none) =
    inr (inl (record {
      name = name;
      unread = subst (λ (l : List (List ℕ)). IsUnread old new l name) (sym asked) (last_unread old new names wholes name are none.fails);
      status_is = none.says.status_is;
      text_is = none.says.text_is;
    }))
named_causes old new request names wholes name (Text status text) asked are refuses (inr long) =
    let line : printed 1 (too_long_line name) ≡ printed status text.items =
    ap (printed 1) (sym long.text_is) ∙ ap (λ (n : ℕ). printed n text.items) (sym long.status_is) in
    inr (inr (record {
      status_is = inl (let one = long.status_is in omega (arith, one));
      comes = subst (ComesTo old (Some request)) line (refuses long.whole long.holds long.long);
      store = long.store;
    }))
named_causes old new request names wholes name NoMemory asked are refuses keeps = keeps
named_causes old new request names wholes name Written asked are refuses report = absurd report
named_causes old new request names wholes name Unwritten asked are refuses report = absurd report

-- why there is no input tells why the request is reported so
pub input_causes : (old new : StoreState) (request : Request) (names wholes : List (List ℕ)) (input : Option (List ℕ)) (a : Report) →
    names_of request ≡ with_input names input →
    AreFiles old.told names wholes →
    ((name : List ℕ) → input ≡ Some name → RefusesLong old request name) →
    InputReport old new input a →
    Causes old new (Some request) a
input_causes old new request names wholes None a asked are refuses report = absurd report
input_causes old new request names wholes (Some name) a asked are refuses report =
    named_causes old new request names wholes name a asked are (refuses name refl) report
