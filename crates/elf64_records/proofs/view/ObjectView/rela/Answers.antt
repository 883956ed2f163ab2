-- Each part of a record is the field that stands at its place, and the symbol is one of the file.
use Rattle.std.proofs.Common.{rules, arith}
use Rattle.elf64_records.specs.Records.{r_offset, r_info, r_type, r_symbol, r_addend}
use Rattle.elf64_records.specs.laws.Whole.{symbol_in_range}
use Rattle.elf64_records.proofs.view.ObjectView.rela.Goals as goal

pub returns-clause-offset : goal.returns-clause-offset
unfolding r_offset
returns-clause-offset c = search rules

pub returns-clause-kind : goal.returns-clause-kind
unfolding r_type r_info
returns-clause-kind c = search rules

pub returns-clause-symbol : goal.returns-clause-symbol
unfolding r_symbol r_info
returns-clause-symbol c = search rules

pub returns-clause-addend : goal.returns-clause-addend
unfolding r_addend
returns-clause-addend c = search rules

pub returns-clause-known : goal.returns-clause-known
unfolding r_symbol r_info
returns-clause-known c = grind (arith, symbol_in_range)
