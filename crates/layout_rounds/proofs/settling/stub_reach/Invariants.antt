use Rattle.std.proofs.Common.{ℕ, ◌≡◌, ◌<◌, false}
use Rattle.layout_rounds.specs.FarSets.{member}
use Rattle.layout_rounds.specs.Settled.{is_out}
use Rattle.layout_rounds.proofs.settling.stub_reach.Given as goal

-- no call so far is out of reach
abbrev pub invariant-loop-i : goal.invariant-loop-i
invariant-loop-i l = (j : ℕ) → j < l.i →
    is_out l.settled.keyed l.shape.sites.items (member l.settled.far) l.span j ≡ false
