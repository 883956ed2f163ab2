use Rattle.layout_rounds.proofs.keys.call_keys.Given as goal
use Rattle.layout_rounds.proofs.KeysUpto.{AreKeyed}

-- the keys and the numbers of the calls so far
abbrev pub invariant-loop-site : goal.invariant-loop-site
invariant-loop-site l = AreKeyed l.spots l.sites l.site-index l.seen l.numbers.items
