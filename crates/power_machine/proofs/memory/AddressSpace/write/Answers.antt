-- A write changes the pages of one region: none without one ..
use Rattle.std.proofs.Common.{refl, sym}
use Rattle.power_machine.specs.declared.memory.Purpose.TheVariants.{Storing}
use Rattle.power_machine.proofs.Places.{allowed_is, stored, unchanged}
use Rattle.power_machine.proofs.memory.AddressSpace.write.Goals as goal

pub returns-in_default-clause-writes : goal.returns-in_default-clause-writes
returns-in_default-clause-writes c = (
  sym (allowed_is Storing c.args.self.now.regions.items _ c.args.at c.args.room c.place.result _
      c.deref.ensures.value c.in_default.is c.place.ensures.value),
  refl,
)

-- .. the ranges stay ..
pub returns-in-Ok-clause-ranges : goal.returns-in-Ok-clause-ranges
returns-in-Ok-clause-ranges c =
    (stored c.args.self.now.regions.items _ c.args.at c.args.room _ c.in-Some.index c.index_mut-region.result.now
    c.args.bytes.now c.write.new.self c.args.self.now.in_order c.deref.ensures.value c.in-Some.ensures.found
    c.index_mut-region.ensures.value c.requires.fits c.index_of-from.ensures c.write.ensures.len
    c.in-Ok.ensures.kept c.in-Ok.ensures.bytes).ranges

-- .. the bytes are there ..
pub returns-in-Ok-clause-writes : goal.returns-in-Ok-clause-writes
returns-in-Ok-clause-writes c = (
  sym (allowed_is Storing c.args.self.now.regions.items _ c.args.at c.args.room c.place.result _
      c.deref.ensures.value c.in-Some.is c.place.ensures.value),
  (stored c.args.self.now.regions.items _ c.args.at c.args.room _ c.in-Some.index c.index_mut-region.result.now
      c.args.bytes.now c.write.new.self c.args.self.now.in_order c.deref.ensures.value c.in-Some.ensures.found
      c.index_mut-region.ensures.value c.requires.fits c.index_of-from.ensures c.write.ensures.len
      c.in-Ok.ensures.kept c.in-Ok.ensures.bytes).puts,
)

-- .. and where memory is refused nothing changes.
pub returns-in-Err-clause-writes : goal.returns-in-Err-clause-writes
returns-in-Err-clause-writes c = (
  sym (allowed_is Storing c.args.self.now.regions.items _ c.args.at c.args.room c.place.result _
      c.deref.ensures.value c.in-Some.is c.place.ensures.value),
  unchanged c.args.self.now.regions.items c.in-Some.index c.index_mut-region.result.now c.write.new.self
      c.index_mut-region.ensures.value c.in-Err.ensures.refused,
)
