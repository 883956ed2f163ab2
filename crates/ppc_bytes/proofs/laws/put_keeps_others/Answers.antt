-- A number beside the place of a write stays.
use Rattle.ppc_bytes.specs.laws.Places.{others_stay}
use Rattle.ppc_bytes.proofs.laws.put_keeps_others.Goals as goal

pub returns : goal.returns
returns c n m at place x b room beside = others_stay n m at place x b room beside
