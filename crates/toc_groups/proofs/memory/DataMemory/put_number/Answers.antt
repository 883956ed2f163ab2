-- returns: the number's bytes are put into the part that has the address.
use Rattle.std.proofs.Common.{ℕ, ◌≡◌, ◌<◌, ◌⊎◌, inl, inr, refl, subst, sym, arith}
use Rattle.byteorder.specs.Endian.{little_bytes}
use Rattle.byteorder.specs.Numbers.{length-bytes_low_first}
use Rattle.toc_groups.specs.inside.Memory.{HasRange}
use Rattle.toc_groups.proofs.Putting.{wrote_first, wrote_second}
use Rattle.toc_groups.proofs.memory.DataMemory.put_number.Goals as goal

some : (width : ℕ) → (width ≡ 4) ⊎ (width ≡ 8) → 0 < width
some width (inl is) = omega (arith, is)
some width (inr is) = omega (arith, is)

pub returns-then-address-self-clause-puts : goal.returns-then-address-self-clause-puts
returns-then-address-self-clause-puts c =
    let long = length-bytes_low_first 0 c.args.width c.args.x in
    let any = some c.args.width c.requires.width in
    wrote_first c.args.self.now c.self.inside.ends c.self.inside.read_only c.self.inside.writable c.deref_mut.result.now c.put_number.new.b
    (little_bytes c.args.width c.args.x) c.args.address _ c.self.view_is c.self.invariant c.if-address-self.true (omega (arith, long, any))
    (subst (λ (n : ℕ). HasRange c.args.self.now.ends c.args.address n) (sym long) c.requires.room) refl c.deref_mut.ensures.value
    c.put_number.ensures

pub returns-else-address-self-clause-puts : goal.returns-else-address-self-clause-puts
returns-else-address-self-clause-puts c =
    let long = length-bytes_low_first 0 c.args.width c.args.x in
    let any = some c.args.width c.requires.width in
    wrote_second c.args.self.now c.self.inside.ends c.self.inside.read_only c.self.inside.writable
    c.deref_mut-else-address-self.result.now c.put_number-else-address-self.new.b (little_bytes c.args.width c.args.x) c.args.address _
    c.self.view_is c.self.invariant c.if-address-self.false (omega (arith, long, any))
    (subst (λ (n : ℕ). HasRange c.args.self.now.ends c.args.address n) (sym long) c.requires.room) refl
    c.deref_mut-else-address-self.ensures.value c.put_number-else-address-self.ensures
