-- The bytes of the region that has them are those at the addresses: none without a region ..
use Rattle.std.proofs.Common.{ap, ◌∙◌}
use Rattle.power_machine.specs.declared.memory.Purpose.TheVariants.{Loading}
use Rattle.power_machine.specs.Memory.{bytes_from}
use Rattle.power_machine.specs.Paging.{byte_in}
use Rattle.power_machine.proofs.Places.{read_none, read_some}
use Rattle.power_machine.proofs.memory.AddressSpace.bytes_at.Goals as goal

pub returns-in_default : goal.returns-in_default
returns-in_default c =
    read_none (λ xs. xs) Loading _ _ c.args.at c.args.room c.args.count c.place.result c.deref.ensures.value
    c.in_default.is c.place.ensures.value

-- .. and the first of them where there is one
pub returns : goal.returns
returns c =
    let s = c.index-region.result.now in
    read_some (λ xs. xs) Loading c.args.self.now.regions.items _ c.args.at c.args.room c.args.count c.place.result
    c.in-Some.index c.of.result s c.args.self.now.in_order c.deref.ensures.value
    c.in-Some.is c.place.ensures.value c.in-Some.ensures.found c.index-region.ensures c.requires.fits
    (c.of.ensures ∙ c.in_ok-bytes.ensures ∙ ap (λ k. bytes_from (byte_in s.pages) k c.args.count) c.index_of.ensures)
