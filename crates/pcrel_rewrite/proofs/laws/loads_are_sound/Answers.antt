use Rattle.pcrel_rewrite.specs.laws.Pairs.{load_sound}
use Rattle.pcrel_rewrite.proofs.laws.loads_are_sound.Goals as goal

-- its record is not refused
pub returns : goal.returns
returns c = load_sound
