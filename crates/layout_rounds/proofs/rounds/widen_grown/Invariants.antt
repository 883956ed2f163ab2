use Rattle.layout_rounds.specs.inside.Ways.{way_at, way_reaches}
use Rattle.layout_rounds.specs.inside.Rounds.{IsRound}
use Rattle.layout_rounds.proofs.rounds.widen_grown.Given as goal

-- the round has come past the first keys
abbrev pub invariant-loop-k : goal.invariant-loop-k
invariant-loop-k l = IsRound (λ k. way_reaches l.span l.starts (way_at l.ways k)) l.fn.far l.far l.k l.round
