use Rattle.std.proofs.Common.{◌≡◌, ◌-◌}
use Rattle.elf64_records.specs.First.{first_from}
use Rattle.elf64_records.specs.FileHeader.{e_shnum}
use Rattle.elf64_records.specs.Symbols.{symbol_table_at}
use Rattle.elf64_records.proofs.symbols.symbol_table.Given as goal

-- the first of what is left is the first of all
abbrev pub invariant-loop-i : goal.invariant-loop-i
invariant-loop-i l =
    let b = l.headers.bytes.now in
    first_from (symbol_table_at b) l.i (l.headers.count - l.i) ≡ first_from (symbol_table_at b) 1 (e_shnum b - 1)
