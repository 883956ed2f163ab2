-- A run that is over stays over: one that had ended before ..
use Rattle.std.proofs.Common.{◌≡◌, refl, sym, ◌∙◌, subst, arith}
use Rattle.power_machine.specs.Pages.{PagesReach, kept_pages}
use Rattle.power_machine.specs.Runs.{Going, Done, Gone}
use Rattle.power_machine.specs.Steps.{ReachesIn, machine_ranges, run_of}
use Rattle.power_machine.proofs.Keeping.{done_over, gone_over, pages_begin, pages_go_on, pages_stop}
use Rattle.power_machine.proofs.Stepping.{over_before, ends_now, leaves_now, goes_on}
use Rattle.power_machine.proofs.machine.Machine.run.Goals as goal

pub returns-in-Some-clause-answers : goal.returns-in-Some-clause-answers
returns-in-Some-clause-answers c = over_before _ _ c.args.budget _ c.in-Some.is

-- .. one that ends at this step ..
pub returns-in-Ended-clause-answers : goal.returns-in-Ended-clause-answers
returns-in-Ended-clause-answers c =
    ends_now _ _ _ c.loop.counter c.args.budget _ _ c.in-Ended.status c.loop.invariant.ranges c.loop-test.true
    c.loop.invariant.so_far c.in-Ended.ensures.made

-- .. and one that leaves at this step.
pub returns-in-Left-clause-answers : goal.returns-in-Left-clause-answers
returns-in-Left-clause-answers c =
    leaves_now _ _ _ c.loop.counter c.args.budget _ _ c.in-Left.reason c.in-Left.at c.loop.invariant.ranges
    c.loop-test.true c.loop.invariant.so_far c.in-Left.ensures.made

-- The pages of a run that had ended stay ..
pub returns-in-Some-clause-pages : goal.returns-in-Some-clause-pages
returns-in-Some-clause-pages c =
    let r = run_of c.args.self.now c.args.world.now in
    let ranges = machine_ranges c.args.self.now in
    pages_stop ranges r (kept_pages c.args.self.now) 0 c.args.budget (Done c.in-Some.status r) _ _ (omega arith)
    (λ n h. over_before ranges r n c.in-Some.status c.in-Some.is) (done_over c.in-Some.status r)
    (pages_begin ranges r (kept_pages c.args.self.now)) refl

-- .. and those of one that ends ..
pub returns-in-Ended-clause-pages : goal.returns-in-Ended-clause-pages
returns-in-Ended-clause-pages c =
    let r = run_of c.args.self.now c.args.world.now in
    let new = run_of c.step.new.self c.step.new.world in
    let ranges = machine_ranges c.args.self.now in
    pages_stop ranges r (kept_pages c.args.self.now) c.loop.counter c.args.budget (Done c.in-Ended.status new) _ _ (omega arith)
    (λ n h. ends_now ranges r _ c.loop.counter n _ new c.in-Ended.status c.loop.invariant.ranges h
    c.loop.invariant.so_far c.in-Ended.ensures.made)
    (done_over c.in-Ended.status new) c.loop.invariant.pages c.in-Ended.ensures.pages

-- .. or leaves.
pub returns-in-Left-clause-pages : goal.returns-in-Left-clause-pages
returns-in-Left-clause-pages c =
    let r = run_of c.args.self.now c.args.world.now in
    let new = run_of c.step.new.self c.step.new.world in
    let ranges = machine_ranges c.args.self.now in
    pages_stop ranges r (kept_pages c.args.self.now) c.loop.counter c.args.budget (Gone c.in-Left.reason new) _ _ (omega arith)
    (λ n h. (leaves_now ranges r _ c.loop.counter n _ new c.in-Left.reason c.in-Left.at c.loop.invariant.ranges h c.loop.invariant.so_far
    c.in-Left.ensures.made).0)
    (gone_over c.in-Left.reason new) c.loop.invariant.pages c.in-Left.ensures.pages

-- Where memory is refused they are those of the steps before.
pub returns-in-Memory-clause-pages : goal.returns-in-Memory-clause-pages
returns-in-Memory-clause-pages c =
    let r = run_of c.args.self.now c.args.world.now in
    let ranges = machine_ranges c.args.self.now in (
      c.loop.counter,
      c.loop-test.true,
      subst (λ u. ReachesIn ranges c.loop.counter r (Going u)) (sym c.in-Memory.ensures.made.performs) c.loop.invariant.so_far,
      subst (PagesReach ranges c.loop.counter r (kept_pages c.args.self.now)) (sym c.in-Memory.ensures.pages) c.loop.invariant.pages,
    )

-- One more step.
pub loop-preserved : goal.loop-preserved
loop-preserved c =
    let r = run_of c.args.self.now c.args.world.now in
    let ranges = machine_ranges c.args.self.now in
    let on = goes_on ranges r _ c.loop.counter _ _ c.loop.invariant.ranges c.loop.invariant.so_far c.in-Went.ensures.made in
    record {
      so_far = on;
      ranges = c.step.ensures.ranges ∙ c.loop.invariant.ranges;
      pages = pages_go_on ranges r (kept_pages c.args.self.now) _ c.loop.counter _ _ _ _ c.loop.invariant.ranges c.loop.invariant.so_far on
          c.loop.invariant.pages c.in-Went.ensures.pages;
    }

-- In the end they are those of all steps.
pub returns-clause-pages : goal.returns-clause-pages
returns-clause-pages c =
    let same : c.loop.counter ≡ c.args.budget = omega arith in
    subst (λ n. PagesReach (machine_ranges c.args.self.now) n (run_of c.args.self.now c.args.world.now) (kept_pages c.args.self.now)
    (kept_pages c.loop.self)) same c.loop.invariant.pages
