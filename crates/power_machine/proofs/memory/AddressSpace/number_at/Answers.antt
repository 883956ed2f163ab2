-- The bytes of the region that has them spell the number: none without a region ..
use Rattle.std.proofs.Common.{ap, ◌∙◌, subst, arith}
use Rattle.power_insns.specs.Arithmetic.{bytes_of}
use Rattle.power_machine.specs.Bytes.{spelled}
use Rattle.power_machine.specs.Memory.{bytes_from}
use Rattle.power_machine.specs.Paging.{byte_in}
use Rattle.power_machine.specs.inside.Regions.{place_of, IsPlace}
use Rattle.power_machine.proofs.Places.{read_none, read_some}
use Rattle.power_machine.proofs.memory.AddressSpace.number_at.Goals as goal

pub returns-in_default-clause-value : goal.returns-in_default-clause-value
returns-in_default-clause-value c =
    let n = bytes_of c.args.width in
    read_none spelled c.args.purpose _ _ c.args.at n n c.place.result c.deref.ensures.value c.in_default.is
    (c.place.ensures.value ∙ ap (λ k. place_of c.args.purpose c.args.at k c.deref.result.now) c.size_of.ensures)

-- .. and their number where there is one
pub returns-clause-value : goal.returns-clause-value
returns-clause-value c =
    let n = bytes_of c.args.width in
    let s = c.index-region.result.now in
    read_some spelled c.args.purpose c.args.self.now.regions.items _ c.args.at n n c.place.result c.in-Some.index
    c.number_at.result s c.args.self.now.in_order c.deref.ensures.value c.in-Some.is
    (c.place.ensures.value ∙ ap (λ k. place_of c.args.purpose c.args.at k c.deref.result.now) c.size_of.ensures)
    (subst (λ k. IsPlace c.args.purpose c.args.at k c.deref.result.now c.in-Some.index) c.size_of.ensures c.in-Some.ensures.found)
    c.index-region.ensures (omega arith)
    (c.number_at.ensures.value ∙ ap (λ k. spelled (bytes_from (byte_in s.pages) k n)) c.index_of.ensures)
