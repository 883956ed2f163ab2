-- returns: each byte is 0.
use Rattle.std.proofs.Common.{arith}
use Rattle.toc_groups.proofs.Putting.{all_zero}
use Rattle.toc_groups.proofs.memory.DataMemory.zeroed.Goals as goal

pub returns-clause-zero : goal.returns-clause-zero
returns-clause-zero c =
    all_zero c.args.ends c.in_ok-read_only.read_only.items c.in_ok-writable.writable.items (omega arith)
    c.in_ok-read_only.ensures.zero c.in_ok-writable.ensures.zero
