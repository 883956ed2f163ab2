-- Each symbol that is looked at is fit by itself, since none of them is refused.
use Rattle.std.proofs.Common.{◌-◌, arith}
use Rattle.elf64_records.specs.laws.First.{walk_none}
use Rattle.elf64_records.specs.Symbols.{symbol_count}
use Rattle.object_set.specs.Symbols.{symbol_refusal}
use Rattle.object_set.proofs.symbols.check_values.Goals as goal

pub check_value-requires-clause-fit : goal.check_value-requires-clause-fit
check_value-requires-clause-fit c =
    walk_none (symbol_refusal c.args.file c.args.view.now) 1 (symbol_count c.args.view.now - 1) c.loop-j.j c.requires (omega arith)
    (omega arith)
