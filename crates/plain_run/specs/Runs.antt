-- Steps of the plain run of a job, and what its calls come to.
use Rattle.std.specs.Prelude.{◌≡◌, ◌<◌, ℕ, Option, Some, None, slice_index}
use Rattle.power_machine.specs.Memory.{Permission}
use Rattle.power_machine.specs.Machines.{Next, Went, Left, state_after}
use Rattle.power_machine.specs.Runs.{Going, Done, Gone, Steps, Reaches}
use Rattle.plain_machine.specs.declared.action.Action.{Action}
use Rattle.plain_machine.specs.declared.place.TextPlace.{TextPlace}
use Rattle.plain_machine.specs.Actions.{PlainRun, PlainProgress, performed}
use Rattle.plain_run.specs.declared.plain.PlainStep.{PlainStep}
use Rattle.plain_run.specs.declared.plain.PlainStep.TheVariants as step
use Rattle.plain_run.specs.declared.plain.PlainOutcome.{PlainOutcome}
use Rattle.plain_run.specs.declared.plain.PlainOutcome.TheVariants as ending
use Rattle.plain_run.specs.Places.{IsActionAt}
use Rattle.plain_run.specs.Standing.{text_sizes}
use Rattle.plain_run.specs.Jobs.{PlainJob}

-- This is the step of a run that goes on, where memory permits this: the action at its place. There is one action at each place.
pub record IsStep (job : PlainJob) (may : Permission) (r : PlainRun) (next : Next PlainRun) : Type 0 where
  pub action : Action
  pub stands : IsActionAt job.files job.plan job.pairs r.state.at action
  pub is : next ≡ performed (slice_index (text_sizes job.files)) may action r

-- the progress of a run after at most so many steps
abbrev pub ReachesIn : PlainJob → Permission → ℕ → PlainRun → PlainProgress → Type 0
ReachesIn job may n r p = Reaches (IsStep job may) n r p

abbrev pub went_outcome : Option ℕ → PlainStep
went_outcome None = step.Went
went_outcome (Some status) = step.Ended status

-- what a step answers; a leave tells the place of the instruction
abbrev pub outcome_of : TextPlace → Next PlainRun → PlainStep
outcome_of at (Went r) = went_outcome r.ended
outcome_of at (Left reason) = step.Left reason at.section at.offset

-- a call that has done what this step says; want of memory changes nothing
abbrev pub Performs : Next PlainRun → PlainRun → PlainRun → PlainStep → Type 0
Performs next old new step.Memory = new ≡ old
Performs next old new o = (o ≡ outcome_of old.state.at next) × (new ≡ state_after next old)

-- a call that has made the step
pub record Made (job : PlainJob) (may : Permission) (old new : PlainRun) (o : PlainStep) : Type 0 where
  pub next : Next PlainRun
  pub steps : Steps (IsStep job may) old next
  pub performs : Performs next old new o

-- the answer of a run of at most n steps
abbrev pub RunAnswers : PlainJob → Permission → ℕ → PlainRun → PlainRun → PlainOutcome → Type 0
RunAnswers job may n old new ending.Budget = ReachesIn job may n old (Going new)
RunAnswers job may n old new (ending.Exited status) = ReachesIn job may n old (Done status new)
RunAnswers job may n old new (ending.Left reason section offset) =
    ReachesIn job may n old (Gone reason new) × (section ≡ new.state.at.section) × (offset ≡ new.state.at.offset)
RunAnswers job may n old new ending.Memory = (k : ℕ) × (k < n) × ReachesIn job may k old (Going new)
