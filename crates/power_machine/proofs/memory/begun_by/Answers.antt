-- The regions begin in order, so one test tells of all that stand in front of the middle, or behind it.
use Rattle.std.proofs.Common.{◌+◌, ◌-◌, ◌/◌, arith}
use Rattle.power_machine.proofs.Places.{begun_to, ahead_from}
use Rattle.power_machine.proofs.memory.begun_by.Goals as goal

pub loop-low-preserved-then-regions-middle : goal.loop-low-preserved-then-regions-middle
loop-low-preserved-then-regions-middle c =
    let old = c.loop-low.invariant in
    record {
      apart = omega arith;
      within = omega arith;
      begun = begun_to c.args.regions.now (c.loop-low.low + (c.loop-low.high - c.loop-low.low) / 2) c.args.at
          c.index-regions-middle.result c.requires (omega arith) c.if-regions-middle.true;
      ahead = old.ahead;
    }

pub loop-low-preserved : goal.loop-low-preserved
loop-low-preserved c =
    let old = c.loop-low.invariant in
    record {
      apart = omega arith;
      within = omega arith;
      begun = old.begun;
      ahead = ahead_from c.args.regions.now (c.loop-low.low + (c.loop-low.high - c.loop-low.low) / 2) c.args.at
          c.index-regions-middle.result c.requires (omega arith) c.if-regions-middle.false;
    }
