use Rattle.std.proofs.Common.{sym, to_z, of_z, w64}
use Rattle.symbol_table.proofs.JudgedRecords.{nowhere_some}
use Rattle.symbol_table.proofs.records.FileRecords.check_target.Goals as goal

-- symbol 0 stands for something
pub name-name-requires-clause-some : goal.name-name-requires-clause-some
name-name-requires-clause-some c =
    let rela = c.rela-rela.result in
    nowhere_some c.self.inside.resolved.now.files c.args.id.file rela.symbol (to_z w64 (of_z w64 rela.addend)) (sym c.in-None.ensures)
