-- returns: bytes are put into the part that has the address.
use Rattle.std.proofs.Common.{refl}
use Rattle.toc_groups.proofs.Putting.{wrote_first, wrote_second}
use Rattle.toc_groups.proofs.memory.DataMemory.put.Goals as goal

pub returns-then-address-self-clause-puts : goal.returns-then-address-self-clause-puts
returns-then-address-self-clause-puts c =
    wrote_first c.args.self.now c.self.inside.ends c.self.inside.read_only c.self.inside.writable c.deref_mut.result.now c.put_bytes.new.b
    c.args.bytes.now c.args.address _ c.self.view_is c.self.invariant c.if-address-self.true c.requires.some c.requires.room refl
    c.deref_mut.ensures.value c.put_bytes.ensures

pub returns-else-address-self-clause-puts : goal.returns-else-address-self-clause-puts
returns-else-address-self-clause-puts c =
    wrote_second c.args.self.now c.self.inside.ends c.self.inside.read_only c.self.inside.writable
    c.deref_mut-else-address-self.result.now c.put_bytes-else-address-self.new.b c.args.bytes.now c.args.address _ c.self.view_is
    c.self.invariant c.if-address-self.false c.requires.some c.requires.room refl c.deref_mut-else-address-self.ensures.value
    c.put_bytes-else-address-self.ensures
