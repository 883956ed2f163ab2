-- What a run of an executable comes to, and what is printed of a run.
use Rattle.std.specs.Prelude.{ℕ, ◌≡◌, ◌≢◌, ◌⊎◌, ◌==◌, false, List, [], ◌∷◌, ◌++◌, length, codes, decimal, nat_lt, Option, Some, None, if◌then◌else◌}
use Rattle.std.specs.Fmt.{digits}
use Rattle.hex.specs.Hex.{encode_lower}
use Rattle.elf64_exec.specs.declared.layout.ExecFault.{ExecFault}
use Rattle.elf64_exec.specs.declared.layout.ExecFault.TheVariants.{NotElf, NotExec, BadSegment, Memory}
use Rattle.elf64_exec.specs.Loading.{HasFault}
use Rattle.power_machine.specs.declared.reason.Reason.{Reason}
use Rattle.power_machine.specs.declared.reason.Reason.TheVariants as why
use Rattle.power_machine.specs.declared.world.Event.{Event}
use Rattle.power_machine.specs.Start.{RunsTo}
use Rattle.power_machine.specs.Runs.{Progress, Going, Done, Gone}
use Rattle.power_machine.specs.Steps.{NumberProgress}
use Rattle.elf64_records.specs.First.{◌orelse◌}
use Rattle.ppclink.specs.Lines.{about, too_long_line}

-- what a request comes to: a text that is printed with a status, or a file that is written
pub data Response : Type 0 where
  printed : (status : ℕ) (text : List ℕ) → Response
  written : (out image : List ℕ) → Response

-- the most bytes that an executable may have, and that its input may have
abbrev pub image_limit : ℕ
image_limit = 0x60000000

abbrev pub input_limit : ℕ
input_limit = 0x1000000

-- the line for a file of more bytes than it may have
abbrev pub too_long : ℕ → List ℕ → List ℕ → Option (List ℕ)
too_long limit name b = if nat_lt limit (length b) then Some (too_long_line name) else None

-- the line for an input that is too long, where there is one
abbrev pub long_input : Option (List ℕ) → List ℕ → Option (List ℕ)
long_input None given = None
long_input (Some input) given = too_long input_limit input given

-- the line for the first file that is too long: the input where there is one, then the executable
abbrev pub long_line : List ℕ → Option (List ℕ) → List ℕ → List ℕ → Option (List ℕ)
long_line image input file given = long_input input given orelse too_long image_limit image file

-- the line for a file that isn't an executable; want of memory has none
abbrev pub exec_line : List ℕ → ExecFault → List ℕ
exec_line name NotElf = about name [] (codes "not an executable")
exec_line name NotExec = about name [] (codes "not an executable")
exec_line name (BadSegment i) = about name (codes " segment " ++ decimal i) (codes "bad segment")
exec_line name Memory = []

abbrev pub reason_name : Reason → List ℕ
reason_name why.Fetch = codes "fetch"
reason_name why.Word = codes "word"
reason_name why.Load = codes "load"
reason_name why.Store = codes "store"
reason_name why.Divide = codes "divide"
reason_name why.Call = codes "call"
reason_name why.Value = codes "value"
reason_name why.Toc = codes "toc"
reason_name why.Restore = codes "restore"
reason_name why.Prologue = codes "prologue"
reason_name why.Part = codes "part"
reason_name why.Pair = codes "pair"

-- the line of a call: of a read the descriptor, the length and the bytes, of a write the descriptor and the bytes
abbrev pub event_line : Event → List ℕ
event_line e =
    if e.number == 3
    then codes "read " ++ decimal e.fd ++ codes " " ++ decimal e.length ++ codes " " ++ encode_lower e.bytes ++ codes "\n"
    else codes "write " ++ decimal e.fd ++ codes " " ++ encode_lower e.bytes ++ codes "\n"

abbrev pub event_lines : List Event → List ℕ
event_lines [] = []
event_lines (e ∷ events) = event_line e ++ event_lines events

-- the last line: how the run ended, why and where it left, or that it took all its steps
abbrev pub exit_line : ℕ → List ℕ
exit_line status = codes "exit " ++ decimal status ++ codes "\n"

abbrev pub left_line : Reason → List ℕ → List ℕ
left_line reason place = codes "left " ++ reason_name reason ++ codes " " ++ place ++ codes "\n"

abbrev pub address_text : ℕ → List ℕ
address_text at = codes "0x" ++ digits 16 false at

abbrev pub budget_line : List ℕ
budget_line = codes "budget\n"

-- what is printed of a run, where a place is told so, and the status
abbrev pub response_by : {V B T P : Type 0} → (P → List ℕ) → Progress V B T P → Response
response_by told (Done status r) = printed 0 (event_lines r.events ++ exit_line status)
response_by told (Gone reason r) = printed 6 (event_lines r.events ++ left_line reason (told r.state.at))
response_by told (Going r) = printed 7 (event_lines r.events ++ budget_line)

abbrev pub progress_response : NumberProgress → Response
progress_response progress = response_by address_text progress

-- the file is an executable, and its run of at most so many steps, with this input and no answers, gives this response
pub record IsProgram (file input : List ℕ) (budget : ℕ) (response : Response) : Type 0 where
  pub progress : NumberProgress
  pub runs : RunsTo file input [] budget progress
  pub is : progress_response progress ≡ response

-- the file is no executable
pub record IsNoProgram (name file : List ℕ) (response : Response) : Type 0 where
  pub fault : ExecFault
  pub has : HasFault file fault
  pub real : fault ≢ Memory
  pub is : printed 1 (exec_line name fault) ≡ response

-- a file that is too long is refused, and else it is read and run
abbrev pub Executes : List ℕ → List ℕ → List ℕ → ℕ → Option (List ℕ) → Response → Type 0
Executes name file input budget (Some text) response = printed 1 text ≡ response
Executes name file input budget None response = IsNoProgram name file response ⊎ IsProgram file input budget response
