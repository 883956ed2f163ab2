-- returns: each part has what memory holds from its start to its end.
use Rattle.toc_groups.proofs.Putting.{between_first, between_second}
use Rattle.toc_groups.proofs.memory.DataMemory.into_parts.Goals as goal

pub returns-clause-read_only : goal.returns-clause-read_only
returns-clause-read_only c =
    rw (← c.self.view_is) (between_first c.self.inside.ends c.self.inside.read_only.items c.self.inside.writable.items c.self.invariant)

pub returns-clause-writable : goal.returns-clause-writable
returns-clause-writable c =
    rw (← c.self.view_is) (between_second c.self.inside.ends c.self.inside.read_only.items c.self.inside.writable.items c.self.invariant)
