use Rattle.std.proofs.Common.{◌≡◌, true}
use Rattle.std.specs.List.{slice_index_or}
use Rattle.std.proofs.lemmas.List.Elements.{Contains-get_or}
use Rattle.pcrel_rewrite.proofs.TakenPairs.{no_pair, pushed}
use Rattle.pcrel_rewrite.proofs.recognised.push_if_taken.Goals as goal

-- each of the pairs is asked for
pub is_taken-requires-clause-asked : goal.is_taken-requires-clause-asked
is_taken-requires-clause-asked c =
    c.requires.asked (slice_index_or c.args.asked.now c.args.i no_pair)
    (Contains-get_or c.args.asked.now c.args.i no_pair c.requires.within)

-- one that is taken
pub returns : goal.returns
returns c =
    let taken : c.is_taken.result ≡ true = cc in
    pushed c.args.resolved.now.files c.args.asked.now c.args.loads.now c.args.i c.args.found.now.items c.push.new.self.items
    c.requires.within (c.is_taken.ensures.0 taken) c.in_ok-push.ensures.items
