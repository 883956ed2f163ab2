-- The law, by its lemma.
use Rattle.reloc_fields.specs.laws.Filled.{filled_number}
use Rattle.reloc_fields.proofs.laws.fills_as_a_number.Goals as goal

pub returns : goal.returns
returns c = filled_number
