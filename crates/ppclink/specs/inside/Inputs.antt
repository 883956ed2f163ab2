-- The input of a run: its bytes, and why there are none.
use Rattle.std.specs.Prelude.{ℕ, ◌≡◌, ◌⊎◌, ◌<◌, ◌≤◌, List, [], length, Option, Some, None}
use Rattle.ppc_outside.specs.Outside.{Files, StoreState, Holds, FetchFails}
use Rattle.ppclink.specs.declared.report.Report.{Report}
use Rattle.ppclink.specs.declared.report.Report.TheVariants.{Text, Written, Unwritten, NoMemory}
use Rattle.ppclink.specs.Lines.{too_long_line}
use Rattle.ppclink.specs.Runs.{input_limit}
use Rattle.ppclink.specs.Statuses.{KeepsFiles}
use Rattle.ppclink.specs.inside.Reports.{SaysLine}

-- the input that is named has these bytes, and where none is named there are none
abbrev pub HasInput : Option Files → Option (List ℕ) → List ℕ → Type 0
HasInput told None given = given ≡ []
HasInput told (Some name) given = Holds told name given × (length given ≤ input_limit)

-- it can't be read, with this status and text
pub record SaysNoInput (old new : StoreState) (name : List ℕ) (status : ℕ) (text : List ℕ) : Type 0 where
  pub says : SaysLine name status text
  pub fails : FetchFails old new name

-- it is too long, with this status and text
pub record SaysLongInput (old new : StoreState) (name : List ℕ) (status : ℕ) (text : List ℕ) : Type 0 where
  pub whole : List ℕ
  pub holds : Holds old.told name whole
  pub long : input_limit < length whole
  pub status_is : status ≡ 1
  pub text_is : text ≡ too_long_line name
  pub store : new ≡ old

abbrev pub NamedInputReport : StoreState → StoreState → List ℕ → Report → Type 0
NamedInputReport old new name (Text status text) =
    SaysNoInput old new name status text.items ⊎ SaysLongInput old new name status text.items
NamedInputReport old new name NoMemory = KeepsFiles old new
NamedInputReport old new name Written = ⊥
NamedInputReport old new name Unwritten = ⊥

-- why there is no input; where none is named there is nothing to report
abbrev pub InputReport : StoreState → StoreState → Option (List ℕ) → Report → Type 0
InputReport old new None report = ⊥
InputReport old new (Some name) report = NamedInputReport old new name report
