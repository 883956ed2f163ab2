-- Patches stand where they were put.
use Rattle.placed_bytes.specs.laws.Patched as law
use Rattle.placed_bytes.proofs.laws.patches_stand.Goals as goal

pub returns : goal.returns
returns c b ps placed = law.patches_stand b ps placed
