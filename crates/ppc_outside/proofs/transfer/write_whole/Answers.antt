-- One more write took what stands behind the bytes that were taken.
use Rattle.std.proofs.Common.{arith, rules}
use Rattle.ppc_outside.proofs.Transferring.{append_more, within_rest}
use Rattle.ppc_outside.proofs.transfer.write_whole.Goals as goal

pub loop-turn-preserved : goal.loop-turn-preserved
loop-turn-preserved g c = record {
  taken = append_more _ _ _ c.loop-turn.at c.in-Ok.count c.args.bytes.now c.loop-turn.invariant.taken c.in-Ok.ensures.bytes;
  moves = omega arith;
  within = within_rest c.loop-turn.at c.in-Ok.count c.args.bytes.now c.loop-turn.invariant.within c.in-Ok.ensures.bound;
}
