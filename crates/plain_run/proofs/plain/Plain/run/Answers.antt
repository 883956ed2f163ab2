-- A run that is over stays over: one that had ended before ..
use Rattle.std.proofs.Common.{sym, ◌∙◌, subst, arith, ◌≡◌}
use Rattle.plain_run.specs.Running.{job_of, run_of, may_of}
use Rattle.plain_run.proofs.Stepping.{made_as, over_before, begins, goes_on, ends_now, leaves_now, keeps_now}
use Rattle.plain_run.proofs.plain.Plain.run.Goals as goal

pub returns-in-Some-clause-answers : goal.returns-in-Some-clause-answers
returns-in-Some-clause-answers c =
    let p = c.args.self.now in
    over_before (job_of p) (may_of p) (run_of p c.args.world.now) c.args.budget c.in-Some.status (sym c.ended.ensures ∙ c.in-Some.is)

-- .. one that ends at this step ..
pub returns-in-Ended-clause-answers : goal.returns-in-Ended-clause-answers
returns-in-Ended-clause-answers c =
    let p = c.args.self.now in
    let before = c.loop.invariant in
    ends_now (job_of p) (may_of p) (run_of p c.args.world.now) c.loop.counter c.args.budget _ _ c.in-Ended.status c.loop-test.true
    before.so_far (made_as before.job before.may c.in-Ended.ensures.made)

-- .. and one that leaves at this step.
pub returns-in-Left-clause-answers : goal.returns-in-Left-clause-answers
returns-in-Left-clause-answers c =
    let p = c.args.self.now in
    let before = c.loop.invariant in
    leaves_now (job_of p) (may_of p) (run_of p c.args.world.now) c.loop.counter c.args.budget _ _ c.in-Left.reason c.in-Left.section
    c.in-Left.offset c.loop-test.true before.so_far (made_as before.job before.may c.in-Left.ensures.made)

-- One that finds no memory is where the steps before left it.
pub returns-in-Memory-clause-answers : goal.returns-in-Memory-clause-answers
returns-in-Memory-clause-answers c =
    let p = c.args.self.now in
    let before = c.loop.invariant in
    keeps_now (job_of p) (may_of p) (run_of p c.args.world.now) c.loop.counter c.args.budget _ _ c.loop-test.true before.so_far
    (made_as before.job before.may c.in-Memory.ensures.made)

-- One more step.
pub loop-preserved : goal.loop-preserved
loop-preserved c =
    let p = c.args.self.now in
    let before = c.loop.invariant in
    record {
      so_far = goes_on (job_of p) (may_of p) (run_of p c.args.world.now) c.loop.counter _ _ before.so_far
          (made_as before.job before.may c.in-Went.ensures.made);
      job = c.step.ensures.job ∙ before.job;
      may = c.step.ensures.may ∙ before.may;
    }
