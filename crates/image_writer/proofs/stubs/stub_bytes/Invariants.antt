use Rattle.std.proofs.Common.{◌≡◌, ◌*◌, ◌≤◌, ◌^◌}
use Rattle.layout_rounds.specs.FarSets.{member}
use Rattle.image_writer.specs.Counts.{stubs_size}
use Rattle.image_writer.proofs.stubs.stub_bytes.Given as goal

-- the sum so far, which is low enough
abbrev pub invariant-loop-k : goal.invariant-loop-k
invariant-loop-k l = record {
  sum : l.total ≡ stubs_size l.settled.keyed (member l.settled.far) l.k;
  low : l.total ≤ l.k * 2 ^ 32;
}
