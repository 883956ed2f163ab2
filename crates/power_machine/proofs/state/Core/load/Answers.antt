-- A load gives the number at its address.
use Rattle.std.proofs.Common.{◌∙◌, ap, sym, subst, false, None, ℕ}
use Rattle.power_insns.specs.Arithmetic.{widened}
use Rattle.power_machine.specs.declared.reason.Reason.TheVariants as why
use Rattle.power_machine.specs.Machines.{Went, with_result}
use Rattle.power_machine.specs.Numbers.{NumberState, numbers, state_of}
use Rattle.power_machine.specs.inside.Core.{Did}
use Rattle.power_machine.proofs.Stepping.{loaded}
use Rattle.power_machine.proofs.state.Core.load.Goals as goal

pub returns-in-Some : goal.returns-in-Some
returns-in-Some c =
    let s = state_of c.args.self.now in
    let f : ℕ → NumberState = λ n. with_result numbers c.args.size s c.args.to (widened c.args.width c.args.sign n) false in
    subst (λ next. Did next None c.args.self.now c.finish.new.self c.finish.result)
    (ap (λ v. Went (with_result numbers c.args.size s c.args.to v false)) c.widen.ensures
    ∙ sym (loaded _ _ c.in-Some.n f why.Load (sym c.in-Some.is ∙ c.number_at.ensures.value)))
    c.finish.ensures
