-- Where no byte is zero, all of them stand before the first zero byte.
use Rattle.std.proofs.Common.{eqb, sym}
use Rattle.elf64_records.proofs.Zeros.{position-none}
use Rattle.elf64_records.proofs.names.length_to_zero.Goals as goal

pub returns-in-None-clause-value : goal.returns-in-None-clause-value
returns-in-None-clause-value c = position-none (λ x. eqb x 0) c.args.bytes.now (sym c.in-None.ensures)
