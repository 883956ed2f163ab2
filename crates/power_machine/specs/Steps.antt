-- Steps of the machine of numbers in its world, and what its calls come to.
use Rattle.std.specs.Prelude.{◌≡◌, ◌<◌, ℕ, Bool, List, drop, Option, Some, None}
use Rattle.power_insns.specs.Operations.{operation_of}
use Rattle.prefixed_insns.specs.Meaning.{operation_of_pair}
use Rattle.power_machine.specs.declared.code.Code.{Code}
use Rattle.power_machine.specs.declared.code.Code.TheVariants.{Unfetched, Unknown, OneWord, TwoWords}
use Rattle.power_machine.specs.declared.reason.Reason.TheVariants as why
use Rattle.power_machine.specs.declared.world.World.{World}
use Rattle.power_machine.specs.declared.machine.Machine.{Machine}
use Rattle.power_machine.specs.declared.machine.StepOutcome.{StepOutcome}
use Rattle.power_machine.specs.declared.machine.StepOutcome.TheVariants as outcome
use Rattle.power_machine.specs.declared.machine.Outcome.{Outcome}
use Rattle.power_machine.specs.declared.machine.Outcome.TheVariants as ending
use Rattle.power_machine.specs.Memory.{Permission, Range, within}
use Rattle.power_machine.specs.Machines.{Next, Went, Left, state_after}
use Rattle.power_machine.specs.Numbers.{numbers, state_of, core_ranges}
use Rattle.power_machine.specs.Codes.{IsNext}
use Rattle.power_machine.specs.Calls.{Run}
use Rattle.power_machine.specs.Runs.{operates, Progress, Going, Done, Gone, Steps, Reaches}

abbrev pub NumberRun : Type 0
NumberRun = Run ℕ ℕ Bool ℕ

abbrev pub NumberProgress : Type 0
NumberProgress = Progress ℕ ℕ Bool ℕ

-- the step over what stands at the next address
abbrev pub step_over : List Range → NumberRun → Code → Next NumberRun
step_over ranges r Unfetched = Left why.Fetch
step_over ranges r Unknown = Left why.Word
step_over ranges r (OneWord insn) = operates numbers (within ranges) r 4 (operation_of insn)
step_over ranges r (TwoWords insn) = operates numbers (within ranges) r 8 (operation_of_pair insn)

-- This is the step of a run that goes on. Exactly one thing stands at an address, so there is exactly one step.
pub record IsStep (ranges : List Range) (r : NumberRun) (next : Next NumberRun) : Type 0 where
  pub code : Code
  pub stands : IsNext ranges r.state code
  pub is : next ≡ step_over ranges r code

-- the progress of a run after at most so many steps
abbrev pub ReachesIn : List Range → ℕ → NumberRun → NumberProgress → Type 0
ReachesIn ranges n r p = Reaches (IsStep ranges) n r p

-- what the structs stand for
abbrev pub run_of : Machine → World → NumberRun
run_of m w =
    record {
      state = state_of m.core;
      input = drop w.taken w.input.items;
      answers = drop w.used w.answers.items;
      events = m.events.items;
      ended = m.ended;
    }

abbrev pub machine_ranges : Machine → List Range
machine_ranges m = core_ranges m.core

-- what its memory permits
abbrev pub machine_may : Machine → Permission
machine_may m = within (machine_ranges m)

abbrev pub went_outcome : Option ℕ → StepOutcome
went_outcome None = outcome.Went
went_outcome (Some status) = outcome.Ended status

-- what a step answers; a leave tells the address of the instruction
abbrev pub outcome_of : NumberRun → Next NumberRun → StepOutcome
outcome_of old (Went r) = went_outcome r.ended
outcome_of old (Left reason) = outcome.Left reason old.state.at

-- a call that has done what this step says; want of memory changes nothing
abbrev pub Performs : Next NumberRun → NumberRun → NumberRun → StepOutcome → Type 0
Performs next old new outcome.Memory = new ≡ old
Performs next old new o = (o ≡ outcome_of old next) × (new ≡ state_after next old)

-- a call that has made the step
pub record Made (ranges : List Range) (old new : NumberRun) (o : StepOutcome) : Type 0 where
  pub next : Next NumberRun
  pub steps : Steps (IsStep ranges) old next
  pub performs : Performs next old new o

-- the answer of a run of at most n steps
abbrev pub RunAnswers : List Range → ℕ → NumberRun → NumberRun → Outcome → Type 0
RunAnswers ranges n old new ending.Budget = ReachesIn ranges n old (Going new)
RunAnswers ranges n old new (ending.Exited status) = ReachesIn ranges n old (Done status new)
RunAnswers ranges n old new (ending.Left reason at) = ReachesIn ranges n old (Gone reason new) × (at ≡ new.state.at)
RunAnswers ranges n old new ending.Memory = (k : ℕ) × (k < n) × ReachesIn ranges k old (Going new)
