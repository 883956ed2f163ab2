-- returns-clause-within: the group of a key is there.
use Rattle.layout_rounds.proofs.Read.{key_read}
use Rattle.layout_rounds.proofs.keys.Keyed.key.Goals as goal

pub returns-clause-within : goal.returns-clause-within
returns-clause-within c =
    let lt = rw (← c.self.view_is) at c.requires in
    rw (← c.self.view_is) (key_read _ c.self.invariant.keyed c.args.k c.index.result.now lt c.index.ensures)
