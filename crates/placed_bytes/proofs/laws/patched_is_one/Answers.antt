-- Two lists have the same byte at each place: one of a patch's, or one that stayed.
use Rattle.placed_bytes.specs.laws.Patched as law
use Rattle.placed_bytes.proofs.laws.patched_is_one.Goals as goal

pub returns : goal.returns
returns c old a b ps one other = law.one_patched old a b ps one other
