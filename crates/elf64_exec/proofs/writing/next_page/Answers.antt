-- align_up-requires-clause-power: a page is 2 ^ 16 bytes.
use Rattle.std.proofs.Common.{refl}
use Rattle.elf64_exec.proofs.writing.next_page.Goals as goal

pub align_up-requires-clause-power : goal.align_up-requires-clause-power
align_up-requires-clause-power c = (16, refl)
