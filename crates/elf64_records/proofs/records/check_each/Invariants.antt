use Rattle.std.proofs.Common.{◌≡◌, ◌-◌}
use Rattle.elf64_records.specs.First.{first_from}
use Rattle.elf64_records.specs.Faults.{record_fault}
use Rattle.elf64_records.proofs.records.check_each.Given as goal

-- what is left refuses as all does
abbrev pub invariant-loop-k : goal.invariant-loop-k
invariant-loop-k l =
    let b = l.symbols.sections.headers.bytes.now in
    first_from (record_fault b l.i) l.k (l.count - l.k) ≡ first_from (record_fault b l.i) 0 l.count
