use Rattle.std.proofs.Common.{◌≡◌, ◌≤◌, length}
use Rattle.ppc_outside.specs.inside.Transfer.{HasTaken}
use Rattle.ppc_outside.proofs.transfer.read_front.Given as goal

abbrev pub invariant-loop-turn : goal.invariant-loop-turn
invariant-loop-turn g l = record {
  taken : HasTaken (g.F.Read.remaining l.fn.reader) (g.F.Read.remaining l.reader) l.turn l.taken l.fn.into.items l.into.items;
  within : l.taken ≤ l.limit;
  start : l.start ≡ length l.fn.into.items;
}
