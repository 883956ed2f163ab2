-- An access that wasn't made spends nothing.
use Rattle.plain_machine.proofs.Performing.{spends_nothing}
use Rattle.plain_machine.proofs.state.PlainCore.access.Goals as goal

pub returns-in_default-acted : goal.returns-in_default-acted
returns-in_default-acted c =
    spends_nothing c.args.through c.args.operation.now _ c.args.self.now c.act-acted.new.self c.act-acted.result
    c.in_default-acted.not-Went c.act-acted.ensures
