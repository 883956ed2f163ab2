-- The next multiple above a number that is none.
use Rattle.std.proofs.Common.{arith}
use Rattle.ppc_bytes.proofs.Aligning.{next_multiple}
use Rattle.ppc_bytes.proofs.align.align_up.Goals as goal

pub returns-else-past-eq0 : goal.returns-else-past-eq0
returns-else-past-eq0 c = next_multiple c.args.n c.args.a c.requires.power (omega arith)
