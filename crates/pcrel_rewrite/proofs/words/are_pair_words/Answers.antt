use Rattle.pcrel_rewrite.proofs.PairWords.{no_load, no_access, pair_from, pair_passes}
use Rattle.pcrel_rewrite.proofs.words.are_pair_words.Goals as goal

-- the words at the head load no address
pub returns-in-None : goal.returns-in-None
returns-in-None c = (
  λ t. cc,
  λ pair. absurd (no_load c.args.bytes.now c.args.head c.args.tail c.word_at.result c.word_at-2.result c.word_at.ensures
      c.word_at-2.ensures c.in-None.ensures.none pair),
)

-- the word at the tail doesn't use it
pub returns-in-None-access_through : goal.returns-in-None-access_through
returns-in-None-access_through c = (
  λ t. cc,
  λ pair. absurd (no_access c.args.bytes.now c.args.head c.args.tail c.word_at.result c.word_at-2.result c.word_at.ensures
      c.word_at-2.ensures c.in-Some.address c.word_at-in-Some.result c.in-Some.ensures.some.0 c.word_at-in-Some.ensures
      c.in-None-access_through.ensures.none pair),
)

-- the words between tell
pub returns-in-Some-access_through : goal.returns-in-Some-access_through
returns-in-Some-access_through c =
    let bytes = c.args.bytes.now in
    let head = c.args.head in
    let tail = c.args.tail in
    let loads = c.in-Some.ensures.some.0 in
    let access = c.in-Some-access_through.ensures.some in (
      λ t. pair_from bytes head tail c.word_at.result c.word_at-2.result c.word_at.ensures c.word_at-2.ensures c.in-Some.address
          c.word_at-in-Some.result loads c.word_at-in-Some.ensures c.in-Some-access_through.uses access c.requires.near c.requires.within
          (c.all_are_passed.ensures.0 t),
      λ pair. c.all_are_passed.ensures.1
          (pair_passes bytes head tail c.word_at.result c.word_at-2.result c.word_at.ensures c.word_at-2.ensures c.in-Some.address
          c.word_at-in-Some.result loads c.word_at-in-Some.ensures c.in-Some-access_through.uses access pair),
    )
