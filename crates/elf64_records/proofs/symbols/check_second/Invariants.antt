use Rattle.std.proofs.Common.{◌≡◌, ◌-◌}
use Rattle.elf64_records.specs.First.{first_from}
use Rattle.elf64_records.specs.Faults.{second_fault, first_section}
use Rattle.elf64_records.proofs.symbols.check_second.Given as goal

-- what is left refuses as all does
abbrev pub invariant-loop-i : goal.invariant-loop-i
invariant-loop-i l =
    let b = l.headers.bytes.now in first_from (second_fault b) l.i (l.headers.count - l.i) ≡ first_section b (second_fault b)
