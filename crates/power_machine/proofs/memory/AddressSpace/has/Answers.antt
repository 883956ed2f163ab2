-- A region that has the bytes is one range that allows them.
use Rattle.std.proofs.Common.{refl, ◌∙◌}
use Rattle.power_machine.proofs.Places.{allowed_is}
use Rattle.power_machine.proofs.memory.AddressSpace.has.Goals as goal

pub returns : goal.returns
returns c =
    c.is_some.ensures ∙ allowed_is c.args.purpose _ _ c.args.at c.args.count c.place.result _ c.deref.ensures.value
    refl c.place.ensures.value
