use Rattle.std.proofs.Common.{◌≡◌}
use Rattle.power_machine.specs.Runs.{Reaches, Going}
use Rattle.plain_run.specs.Running.{job_of, run_of, may_of}
use Rattle.plain_run.specs.Runs.{IsStep}
use Rattle.plain_run.proofs.plain.Plain.run.Given as goal

-- the steps so far, of one job
abbrev pub invariant-loop : goal.invariant-loop
invariant-loop l = record {
  so_far : Reaches (IsStep (job_of l.fn.self) (may_of l.fn.self)) l.counter (run_of l.fn.self l.fn.world) (Going (run_of l.self l.world));
  job : job_of l.self ≡ job_of l.fn.self;
  may : may_of l.self ≡ may_of l.fn.self;
}
