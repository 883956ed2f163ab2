-- Each part of an entry is the field that stands at its place.
use Rattle.std.proofs.Common.{rules}
use Rattle.elf64_records.specs.Symbols.{st_info, st_other, st_shndx, st_value, st_size}
use Rattle.elf64_records.proofs.symbols.Symbols.entry.Goals as goal

pub returns-clause-info : goal.returns-clause-info
unfolding st_info
returns-clause-info c = search rules

pub returns-clause-other : goal.returns-clause-other
unfolding st_other
returns-clause-other c = search rules

pub returns-clause-shndx : goal.returns-clause-shndx
unfolding st_shndx
returns-clause-shndx c = search rules

pub returns-clause-value : goal.returns-clause-value
unfolding st_value
returns-clause-value c = search rules

pub returns-clause-size : goal.returns-clause-size
unfolding st_size
returns-clause-size c = search rules
