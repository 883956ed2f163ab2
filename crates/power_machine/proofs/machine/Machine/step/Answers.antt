-- Each outcome is the step over what stands at the next address: none, where the run has ended ..
use Rattle.std.proofs.Common.{refl, subst}
use Rattle.power_machine.specs.declared.code.Code.TheVariants.{Unfetched, Unknown, OneWord, TwoWords}
use Rattle.power_machine.specs.Memory.{within}
use Rattle.power_machine.specs.Numbers.{numbers}
use Rattle.power_machine.specs.Runs.{operates}
use Rattle.power_machine.specs.Steps.{run_of, machine_ranges, Performs}
use Rattle.power_machine.specs.Pages.{PagesAfter, kept_pages, stored_by_operation}
use Rattle.power_machine.proofs.Keeping.{step_keeps}
use Rattle.power_machine.proofs.Stepping.{made_over, made_by}
use Rattle.power_machine.proofs.machine.Machine.step.Goals as goal

pub returns-in-Some-clause-made : goal.returns-in-Some-clause-made
returns-in-Some-clause-made c = made_over _ _ c.in-Some.status c.in-Some.is

-- .. a leave where nothing can be fetched ..
pub returns-in-Unfetched-clause-made : goal.returns-in-Unfetched-clause-made
returns-in-Unfetched-clause-made c = made_by _ _ _ Unfetched _ c.in_default.is c.in-Unfetched.ensures (refl, refl)

-- .. and where no instruction stands ..
pub returns-in-Unknown-clause-made : goal.returns-in-Unknown-clause-made
returns-in-Unknown-clause-made c = made_by _ _ _ Unknown _ c.in_default.is c.in-Unknown.ensures (refl, refl)

-- .. the operation of an instruction of one word ..
pub returns-in-OneWord-clause-made : goal.returns-in-OneWord-clause-made
returns-in-OneWord-clause-made c =
    let r = run_of c.args.self.now c.args.world.now in
    made_by _ _ _ (OneWord c.in-OneWord.insn) _ c.in_default.is c.in-OneWord.ensures
    (subst (λ p. Performs (operates numbers (within (machine_ranges c.args.self.now)) r 4 p) r
    (run_of c.operate.new.self c.operate.new.world) c.operate.result) c.plan_for.ensures.plan c.operate.ensures.performs)

-- .. and of one of two words.
pub returns-in-TwoWords-clause-made : goal.returns-in-TwoWords-clause-made
returns-in-TwoWords-clause-made c =
    let r = run_of c.args.self.now c.args.world.now in
    let o = c.operate-in-TwoWords in
    made_by _ _ _ (TwoWords c.in-TwoWords.insn) _ c.in_default.is c.in-TwoWords.ensures
    (subst (λ p. Performs (operates numbers (within (machine_ranges c.args.self.now)) r 8 p) r
    (run_of o.new.self o.new.world) o.result) c.plan_for_pair.ensures.plan o.ensures.performs)

-- The pages are those of that step.
pub returns-in-OneWord-clause-pages : goal.returns-in-OneWord-clause-pages
returns-in-OneWord-clause-pages c =
    let r = run_of c.args.self.now c.args.world.now in
    step_keeps _ r _ _ (OneWord c.in-OneWord.insn) _ c.in-OneWord.ensures
    (subst (λ p. PagesAfter (stored_by_operation r p) (kept_pages c.args.self.now) (kept_pages c.operate.new.self) c.operate.result)
    c.plan_for.ensures.plan c.operate.ensures.pages)

pub returns-in-TwoWords-clause-pages : goal.returns-in-TwoWords-clause-pages
returns-in-TwoWords-clause-pages c =
    let r = run_of c.args.self.now c.args.world.now in
    let o = c.operate-in-TwoWords in
    step_keeps _ r _ _ (TwoWords c.in-TwoWords.insn) _ c.in-TwoWords.ensures
    (subst (λ p. PagesAfter (stored_by_operation r p) (kept_pages c.args.self.now) (kept_pages o.new.self) o.result)
    c.plan_for_pair.ensures.plan o.ensures.pages)
