-- returns: each address has one byte.
use Rattle.toc_groups.proofs.OneImage.{one_data}
use Rattle.toc_groups.proofs.laws.data_is_one.Goals as goal

pub returns : goal.returns
returns c files span text xs ys whole records fits first second =
    one_data files span text (record { whole = whole; records = records; fits = fits }) xs ys first second
