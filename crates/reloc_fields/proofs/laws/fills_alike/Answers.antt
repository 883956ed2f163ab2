-- The law, by its lemma.
use Rattle.reloc_fields.specs.laws.Filled.{same_filled}
use Rattle.reloc_fields.proofs.laws.fills_alike.Goals as goal

pub returns : goal.returns
returns c = same_filled
