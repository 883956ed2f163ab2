use Rattle.std.proofs.Common.{◌≡◌, ◌-◌, length}
use Rattle.elf64_records.specs.First.{first_from}
use Rattle.symbol_table.specs.Candidates.{duplicate_at, first_duplicate}
use Rattle.symbol_table.proofs.table.NameTable.check_names.Given as goal

-- what is left refuses as all does
abbrev pub invariant-loop-i : goal.invariant-loop-i
invariant-loop-i l = first_from (duplicate_at l.self) l.i (length l.self.names - l.i) ≡ first_duplicate l.self
