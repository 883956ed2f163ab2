-- Sixteen digits write a number of 64 bits.
use Rattle.std.proofs.Common.{arith}
use Rattle.ppc_archive.proofs.FieldText.{few_digits}
use Rattle.ppc_archive.proofs.fields.number_of.Goals as goal

pub overflow_mul-number : goal.overflow_mul-number
overflow_mul-number c =
    let few = few_digits c.loop-byte.number c.loop-byte.byte-index c.loop-byte.invariant.few (omega arith) in
    omega (arith, few)

pub overflow_add-number : goal.overflow_add-number
overflow_add-number c =
    let few = few_digits c.loop-byte.number c.loop-byte.byte-index c.loop-byte.invariant.few (omega arith) in
    omega (arith, few)
