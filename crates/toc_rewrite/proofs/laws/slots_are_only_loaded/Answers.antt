-- returns: the records that go into a slot.
use Rattle.toc_rewrite.specs.laws.Slots.{users_load}
use Rattle.toc_rewrite.proofs.laws.slots_are_only_loaded.Goals as goal

pub returns : goal.returns
returns c = users_load
