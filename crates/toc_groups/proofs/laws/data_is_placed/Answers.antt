-- returns: parts lie in their regions, and no region reaches as far as the limit.
use Rattle.toc_groups.proofs.DataLimits.{placed_data}
use Rattle.toc_groups.proofs.laws.data_is_placed.Goals as goal

pub returns : goal.returns
returns c files span whole fits = placed_data files span whole fits
