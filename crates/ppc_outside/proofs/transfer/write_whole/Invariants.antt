-- So far the writer took the bytes before `at`, at least one in each turn.
use Rattle.std.proofs.Common.{◌≤◌, length, take}
use Rattle.std.specs.Io.KnownBytes.{Appends}
use Rattle.ppc_outside.proofs.transfer.write_whole.Given as goal

abbrev pub invariant-loop-turn : goal.invariant-loop-turn
invariant-loop-turn g l = record {
  taken : Appends (g.W.Write.contents l.fn.writer) (g.W.Write.contents l.writer) (take l.at l.bytes);
  moves : l._turn ≤ l.at;
  within : l.at ≤ length l.bytes;
}
