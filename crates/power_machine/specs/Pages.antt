-- The pages that a machine keeps: at first those in which a segment has a byte that isn't zero, and from then on also those in which a step
-- stores a byte.
use Rattle.std.specs.Prelude.{◌≡◌, ◌≢◌, ◌<◌, ◌+◌, ◌↔◌, ◌⊎◌, ◌==◌, ℕ, Bool, IsTrue, List, length, take, Option, Some, None, if◌then◌else◌}
use Rattle.elf64_exec.specs.declared.layout.Segment.{Segment}
use Rattle.power_insns.specs.declared.meaning.Operation.{Operation}
use Rattle.power_insns.specs.declared.meaning.Operation.TheVariants.{Store, System}
use Rattle.power_insns.specs.Arithmetic.{bytes_of}
use Rattle.power_insns.specs.Operations.{operation_of}
use Rattle.prefixed_insns.specs.Meaning.{operation_of_pair}
use Rattle.power_machine.specs.declared.code.Code.{Code}
use Rattle.power_machine.specs.declared.code.Code.TheVariants.{Unfetched, Unknown, OneWord, TwoWords}
use Rattle.power_machine.specs.declared.machine.Machine.{Machine}
use Rattle.power_machine.specs.declared.machine.Outcome.{Outcome}
use Rattle.power_machine.specs.declared.machine.Outcome.TheVariants as ending
use Rattle.power_machine.specs.declared.machine.StepOutcome.{StepOutcome}
use Rattle.power_machine.specs.declared.machine.StepOutcome.TheVariants as outcome
use Rattle.power_machine.specs.Memory.{Range, keeps_page}
use Rattle.power_machine.specs.Paging.{Span, span_at, page_of, meets, kept_with}
use Rattle.power_machine.specs.Machines.{register, value_of, sum_address}
use Rattle.power_machine.specs.Numbers.{NumberState, numbers}
use Rattle.power_machine.specs.Codes.{IsNext}
use Rattle.power_machine.specs.Calls.{first_answer, granted}
use Rattle.power_machine.specs.Runs.{Going}
use Rattle.power_machine.specs.Start.{start_byte}
use Rattle.power_machine.specs.Steps.{NumberRun, ReachesIn}

-- the pages that the machine keeps
abbrev pub kept_pages : Machine → ℕ → Bool
kept_pages m page = keeps_page m.core.memory.regions.items page

-- a segment has a byte in the page that isn't zero
abbrev pub HasData : List Segment → ℕ → Type 0
HasData segments page = (a : ℕ) × (page_of a ≡ page) × (start_byte segments a ≢ 0)

-- where an operation on the state stores
abbrev pub stored_by : NumberState → Operation → Option Span
stored_by s (Store width from base offset update) =
    Some (span_at (sum_address (value_of numbers s base) (value_of numbers s offset)) (bytes_of width))
stored_by s operation = None

-- where a read stores: from r4 on, as many bytes as r5, the answer and the input allow
abbrev pub stored_by_read : NumberRun → Span
stored_by_read r =
    span_at (register numbers r.state.registers 4)
    (length (take (granted (first_answer r.answers) (register numbers r.state.registers 5)) r.input))

-- where a call stores: a read alone does
abbrev pub stored_by_call : NumberRun → Option Span
stored_by_call r = if register numbers r.state.registers 0 == 3 then Some (stored_by_read r) else None

abbrev pub stored_by_operation : NumberRun → Operation → Option Span
stored_by_operation r System = stored_by_call r
stored_by_operation r operation = stored_by r.state operation

-- where the step over what stands at the next address stores
abbrev pub stored_over : NumberRun → Code → Option Span
stored_over r Unfetched = None
stored_over r Unknown = None
stored_over r (OneWord insn) = stored_by_operation r (operation_of insn)
stored_over r (TwoWords insn) = stored_by_operation r (operation_of_pair insn)

-- the pages after a call that stores there if it goes
abbrev pub PagesAfter : Option Span → (ℕ → Bool) → (ℕ → Bool) → StepOutcome → Type 0
PagesAfter span before after outcome.Went = after ≡ kept_with before span
PagesAfter span before after o = after ≡ before

-- The pages that are kept after a step of this run: those from before, and where it went those in which it stored a byte.
abbrev pub StepKeeps : List Range → NumberRun → (ℕ → Bool) → (ℕ → Bool) → StepOutcome → Type 0
StepKeeps ranges r before after outcome.Went =
    (code : Code) × IsNext ranges r.state code × (after ≡ kept_with before (stored_over r code))
StepKeeps ranges r before after o = after ≡ before

-- one of the first n steps of a run, after which it goes on, stores a byte in the page
pub record StoredIn (ranges : List Range) (n : ℕ) (old : NumberRun) (page : ℕ) : Type 0 where
  pub step : ℕ
  pub before : NumberRun
  pub after : NumberRun
  pub code : Code
  pub span : Span
  pub within : step < n
  pub begins : ReachesIn ranges step old (Going before)
  pub goes_on : ReachesIn ranges (step + 1) old (Going after)
  pub stands : IsNext ranges before.state code
  pub stores : stored_over before code ≡ Some span
  pub met : IsTrue (meets span page)

-- the pages that are kept after so many steps of a run: those from before, and those in which one of the steps stored a byte
abbrev pub PagesReach : List Range → ℕ → NumberRun → (ℕ → Bool) → (ℕ → Bool) → Type 0
PagesReach ranges n old before after =
    (page : ℕ) → IsTrue (after page) ↔ (IsTrue (before page) ⊎ StoredIn ranges n old page)

-- the pages that are kept after a run of at most n steps that gave this answer: one that memory stopped has made some steps
abbrev pub RunKeeps : List Range → ℕ → NumberRun → NumberRun → (ℕ → Bool) → (ℕ → Bool) → Outcome → Type 0
RunKeeps ranges n old new before after ending.Memory =
    (k : ℕ) × (k < n) × ReachesIn ranges k old (Going new) × PagesReach ranges k old before after
RunKeeps ranges n old new before after o = PagesReach ranges n old before after
