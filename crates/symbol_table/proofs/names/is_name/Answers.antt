use Rattle.symbol_table.proofs.NameIndex.{read_named, past_named, name_decides}
use Rattle.symbol_table.proofs.names.is_name.Goals as goal

-- it is the name that is read there
pub returns-in-Some : goal.returns-in-Some
returns-in-Some c =
    let at = c.in-Some.ensures.lookup in
    name_decides c.eq.result c.in-Some.other.now.now c.args.name.now _ c.eq.ensures
    (read_named c.args.names.now c.args.number c.in-Some.other.now at.3.0 at.1)

-- no name has the number
pub returns-in-None : goal.returns-in-None
returns-in-None c =
    let past = c.in-None.ensures.lookup.3 in
    (λ no. cc, λ found. absurd (past_named c.args.names.now c.args.number c.args.name.now past found))
