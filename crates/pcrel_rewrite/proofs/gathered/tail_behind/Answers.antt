use Rattle.std.proofs.Common.{ℕ, subst, arith}
use Rattle.std.proofs.lemmas.Int.{ints}
use Rattle.pcrel_rewrite.specs.Words.{ArePairWords}
use Rattle.pcrel_rewrite.proofs.gathered.tail_behind.Goals as goal

-- the access can stand nowhere else
pub returns-else-are_pair_words-clause-none : goal.returns-else-are_pair_words-clause-none
returns-else-are_pair_words-clause-none c = λ tail distance pair.
    let near = pair.near in
    let yes = c.are_pair_words.ensures.1
    (subst (λ (t : ℕ). ArePairWords c.args.bytes.now c.args.head t) (omega (arith, ints, distance, near.least)) pair) in
    let no = c.if-are_pair_words.false in
    cc
