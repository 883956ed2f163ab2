-- returns-clause-bits: each bit, by the bits of the operators that make it.
use Rattle.reloc_fields.proofs.Merging.{fills}
use Rattle.reloc_fields.proofs.field.merged.Goals as goal

pub returns-clause-bits : goal.returns-clause-bits
returns-clause-bits c = fills c.args.mask c.args.old c.args.field c.ranges.mask.fits
