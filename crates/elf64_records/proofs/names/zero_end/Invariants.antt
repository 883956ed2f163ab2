use Rattle.std.proofs.Common.{◌≡◌, ◌≤◌, length, false}
use Rattle.elf64_records.specs.Names.{has_zero_from}
use Rattle.elf64_records.proofs.names.zero_end.Given as goal

-- no zero byte stands from here on
abbrev pub invariant-loop-end : goal.invariant-loop-end
invariant-loop-end l = (l.end ≤ length l.table) × (has_zero_from l.table l.end ≡ false)

abbrev pub decreases-loop-end : goal.decreases-loop-end
decreases-loop-end l = l.end
