-- returns: parts lie in their regions, and in each region one behind the other.
use Rattle.toc_groups.proofs.Apart.{parts_apart}
use Rattle.toc_groups.proofs.laws.parts_are_apart.Goals as goal

pub returns : goal.returns
returns c files span a p q whole first second = parts_apart files span p q a whole first second
