-- The machine at the start of a job, and what its steps come to.
use Rattle.std.specs.Prelude.{◌≡◌, ℕ, List, [], None}
use Rattle.elf64_exec.specs.declared.layout.Segment.{Segment}
use Rattle.power_machine.specs.Start.{start_ranges}
use Rattle.symbol_table.specs.declared.target.CodePlace.{CodePlace}
use Rattle.plain_machine.specs.declared.machine.Performed.{Performed}
use Rattle.plain_machine.specs.declared.machine.Performed.TheVariants as performed
use Rattle.plain_machine.specs.declared.machine.PlainMachine.{PlainMachine}
use Rattle.plain_machine.specs.declared.place.TextPlace.{TextPlace}
use Rattle.plain_machine.specs.Actions.{guarded}
use Rattle.plain_machine.specs.inside.Machine.{machine_state, machine_may, machine_sizes, machine_events, machine_ended}
use Rattle.plain_run.specs.declared.plain.PlainStep.{PlainStep}
use Rattle.plain_run.specs.declared.plain.PlainStep.TheVariants as step
use Rattle.plain_run.specs.Data.{entry_place, plain_start}
use Rattle.plain_run.specs.Places.{toc_ranges}
use Rattle.plain_run.specs.Standing.{text_sizes}

-- what a step of the machine at a place came to, for the job
abbrev pub outcome_by : Performed → TextPlace → PlainStep
outcome_by performed.Went p = step.Went
outcome_by (performed.Ended status) p = step.Ended status
outcome_by (performed.Left reason) p = step.Left reason p.section p.offset
outcome_by performed.Memory p = step.Memory

pub record IsMachineStart (files : List (List ℕ)) (span : ℕ) (entry : CodePlace) (segments : List Segment) (m : PlainMachine) : Type 0
  where
    pub state : machine_state m ≡ plain_start files span (entry_place entry) segments
    pub may : machine_may m ≡ guarded (start_ranges segments) (toc_ranges files span)
    pub sizes : machine_sizes m ≡ text_sizes files
    pub events : machine_events m ≡ []
    pub ended : machine_ended m ≡ None
