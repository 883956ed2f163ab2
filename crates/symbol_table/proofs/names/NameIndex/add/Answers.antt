use Rattle.symbol_table.proofs.NameIndex.{with_known}
use Rattle.symbol_table.proofs.names.NameIndex.add.Goals as goal

-- a name that was there adds nothing
pub returns-in-Some-clause-names : goal.returns-in-Some-clause-names
returns-in-Some-clause-names c = with_known c.args.self.now c.args.name.now c.in-Some.number c.in-Some.ensures
