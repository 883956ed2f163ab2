-- What contracts see of a job that is run, and where its run begins (ELFv2 ABI, "Process Initialization").
use Rattle.std.specs.Prelude.{◌≡◌, List, [], None}
use Rattle.elf64_exec.specs.declared.layout.Segment.{Segment}
use Rattle.power_machine.specs.declared.world.World.{World}
use Rattle.power_machine.specs.Memory.{Permission}
use Rattle.power_machine.specs.Start.{start_ranges}
use Rattle.symbol_table.specs.declared.target.CodePlace.{CodePlace}
use Rattle.plain_machine.specs.Actions.{PlainRun, guarded}
use Rattle.plain_machine.specs.inside.Machine.{run_of as machine_run, machine_state, machine_may, machine_events, machine_ended}
use Rattle.plain_run.specs.declared.plain.Plain.{Plain}
use Rattle.plain_run.specs.Data.{entry_place, plain_start}
use Rattle.plain_run.specs.Places.{toc_ranges}
use Rattle.plain_run.specs.Jobs.{PlainJob}

-- what the struct stands for: its job, the run of that in a world, and what memory permits it
abbrev pub job_of : Plain → PlainJob
job_of p = p.text

abbrev pub run_of : Plain → World → PlainRun
run_of p w = machine_run p.machine w

abbrev pub may_of : Plain → Permission
may_of p = machine_may p.machine

-- A job at its start, entered at a place, where data has these segments. Nothing may be stored to the table of contents.
pub record IsPlainStart (job : PlainJob) (entry : CodePlace) (segments : List Segment) (p : Plain) : Type 0 where
  pub job_is : job_of p ≡ job
  pub state : machine_state p.machine ≡ plain_start job.files job.plan.span (entry_place entry) segments
  pub may : may_of p ≡ guarded (start_ranges segments) (toc_ranges job.files job.plan.span)
  pub events : machine_events p.machine ≡ []
  pub ended : machine_ended p.machine ≡ None
