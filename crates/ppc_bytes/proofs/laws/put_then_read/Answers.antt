-- What was put is read again.
use Rattle.ppc_bytes.specs.laws.Places.{read_back}
use Rattle.ppc_bytes.proofs.laws.put_then_read.Goals as goal

pub returns : goal.returns
returns c n at x b room fits = read_back n b at x room fits
