-- returns-in-None: no kind has the number.
use Rattle.std.proofs.Common.{arith}
use Rattle.std.proofs.lemmas.Bool.Decides.{nat_tests}
use Rattle.reloc_fields.specs.declared.kind.Kind.TheVariants.{GotPcrel34}
use Rattle.toc_groups.proofs.slots.is_got_load.Goals as goal

pub returns-in-None : goal.returns-in-None
returns-in-None c =
    let other = c.in-None.ensures.unknown GotPcrel34 in
    grind (arith, nat_tests, other)
