use Rattle.elf64_exec.proofs.ReadHeaders.{ReadSoFar}
use Rattle.elf64_exec.proofs.reading.read_segments.Given as goal

abbrev pub invariant-loop-i : goal.invariant-loop-i
invariant-loop-i l = ReadSoFar l.bytes l.i l.top l.list.items
