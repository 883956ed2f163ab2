use Rattle.std.proofs.Common.{◌≡◌, ◌-◌}
use Rattle.elf64_records.specs.First.{first_from}
use Rattle.elf64_records.specs.Faults.{range_fault, first_section}
use Rattle.elf64_records.proofs.sections.check_ranges.Given as goal

-- what is left refuses as all does
abbrev pub invariant-loop-i : goal.invariant-loop-i
invariant-loop-i l = first_from (range_fault l.headers.bytes.now) l.i (l.headers.count - l.i)
    ≡ first_section l.headers.bytes.now (range_fault l.headers.bytes.now)
