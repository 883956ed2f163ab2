use Rattle.std.proofs.Common.{◌≡◌, ◌-◌}
use Rattle.elf64_records.specs.First.{first_from}
use Rattle.elf64_records.specs.Faults.{symbol_fault}
use Rattle.elf64_records.proofs.symbols.check_names.Given as goal

-- what is left refuses as all does
abbrev pub invariant-loop-j : goal.invariant-loop-j
invariant-loop-j l = first_from (symbol_fault l.bytes) l.j (l.count - l.j) ≡ first_from (symbol_fault l.bytes) 0 l.count
