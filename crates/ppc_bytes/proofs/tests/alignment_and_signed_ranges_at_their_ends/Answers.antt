-- 0x10000 is a power of two.
use Rattle.std.proofs.Common.{refl}
use Rattle.ppc_bytes.proofs.tests.alignment_and_signed_ranges_at_their_ends.Goals as goal

pub align_up-requires-clause-power : goal.align_up-requires-clause-power
align_up-requires-clause-power g c = (16, refl)

pub align_up-requires-2-clause-power : goal.align_up-requires-2-clause-power
align_up-requires-2-clause-power g c = (16, refl)

pub align_up-requires-3-clause-power : goal.align_up-requires-3-clause-power
align_up-requires-3-clause-power g c = (16, refl)
