-- returns: each part that isn't empty is a segment more behind those before it.
use Rattle.toc_groups.proofs.PlacedSegments.{placed_segments}
use Rattle.toc_groups.proofs.laws.data_segments_are_placed.Goals as goal

pub returns : goal.returns
returns c files span text segments whole fits are = placed_segments files span text segments whole fits are
