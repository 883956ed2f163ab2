use Rattle.std.proofs.Common.{◌≡◌, ◌-◌}
use Rattle.elf64_records.specs.First.{first_from}
use Rattle.elf64_records.specs.Faults.{rela_fault, first_section}
use Rattle.elf64_records.proofs.records.check_relas.Given as goal

-- what is left refuses as all does
abbrev pub invariant-loop-i : goal.invariant-loop-i
invariant-loop-i l =
    let b = l.symbols.sections.headers.bytes.now in
    first_from (rela_fault b) l.i (l.symbols.sections.headers.count - l.i) ≡ first_section b (rela_fault b)
