-- A division is that of the values of its operands.
use Rattle.std.proofs.Common.{sym, subst}
use Rattle.power_insns.specs.declared.meaning.Operation.{Operation}
use Rattle.power_machine.specs.Machines.{divide, exec, value_of}
use Rattle.plain_machine.specs.declared.value.PlainValue.{PlainValue}
use Rattle.plain_machine.specs.inside.Core.{Did, domain_of, plain_state, core_may}
use Rattle.plain_machine.proofs.state.PlainCore.act.Goals as goal

pub returns-in-Divide : goal.returns-in-Divide
returns-in-Divide c =
    let core = c.args.self.now in
    let new = c.divide.new.self in
    let w = c.in-Divide in
    subst (λ (op : Operation). Did (exec (domain_of core) c.args.size (core_may core) op (plain_state core)) core new c.divide.result)
    (sym w.is)
    (subst (λ (x : PlainValue).
    Did (divide (domain_of core) c.args.size (plain_state core) w.sign w.to x (value_of (domain_of core) (plain_state core) w.y) w.rc)
    core new c.divide.result) c.value_of-x.ensures
    (subst (λ (y : PlainValue).
    Did (divide (domain_of core) c.args.size (plain_state core) w.sign w.to c.value_of-x.result y w.rc)
    core new c.divide.result) c.value_of-y.ensures c.divide.ensures))
