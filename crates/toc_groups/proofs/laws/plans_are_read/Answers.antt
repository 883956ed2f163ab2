-- returns: each number of the plan is read at its index.
use Rattle.toc_groups.proofs.Reading.{laid_piece, laid_target, laid_symbol, piece_is, address_is, slot_is}
use Rattle.toc_groups.proofs.laws.plans_are_read.Goals as goal

pub returns : goal.returns
returns c files span plan is = record {
  knows_piece = laid_piece files span plan is;
  knows_target = laid_target files span plan is;
  knows_symbol = laid_symbol files span plan is;
  pieces = piece_is files span plan is;
  targets = address_is files span plan is;
  slots = slot_is files span plan is;
}
