-- The pages are those in which the bytes that were read lie.
use Rattle.std.proofs.Common.{◌∙◌, ap, drop, length, take, Some}
use Rattle.power_machine.specs.declared.memory.AddressSpace.{AddressSpace}
use Rattle.power_machine.specs.Calls.{granted}
use Rattle.power_machine.specs.Machines.{register}
use Rattle.power_machine.specs.Memory.{keeps_page}
use Rattle.power_machine.specs.Numbers.{numbers}
use Rattle.power_machine.specs.Paging.{span_at, kept_with}
use Rattle.power_machine.specs.Pages.{kept_pages}
use Rattle.power_machine.proofs.machine.Machine.read.Goals as goal

pub returns-clause-pages : goal.returns-clause-pages
returns-clause-pages c =
    let registers = c.args.self.now.core.registers in
    let world = c.args.world.now in
    ap (λ (m : AddressSpace). keeps_page m.regions.items) c.called.ensures.memory
    ∙ c.in-Ok-fill.ensures.filled.pages_are
    ∙ ap (λ n. kept_with (kept_pages c.args.self.now) (Some (span_at (register numbers registers 4) n)))
    (ap length c.next_bytes-bytes.ensures ∙ ap (λ m. length (take m (drop world.taken world.input.items)))
    (c.granted-most.ensures ∙ ap (λ a. granted a (register numbers registers 5)) c.next-answer.ensures))
