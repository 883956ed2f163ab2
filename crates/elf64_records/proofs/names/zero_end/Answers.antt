-- Past the last zero byte, and where there is none, no place is followed by one; every place before it is.
use Rattle.std.proofs.Common.{arith}
use Rattle.elf64_records.proofs.Zeros.{zeros_end}
use Rattle.elf64_records.proofs.names.zero_end.Goals as goal

pub returns-else-table-end-ne0 : goal.returns-else-table-end-ne0
returns-else-table-end-ne0 c start =
    zeros_end c.args.table.now c.loop-end.end start c.loop-end.invariant.0 c.loop-end.invariant.1 (λ _. c.if-table-end-ne0.false)

pub returns-after-loop-end : goal.returns-after-loop-end
returns-after-loop-end c start =
    zeros_end c.args.table.now c.loop-end.end start c.loop-end.invariant.0 c.loop-end.invariant.1 (λ above. absurd (omega arith))
