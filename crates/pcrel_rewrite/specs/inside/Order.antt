-- Places of text in order.
use Rattle.std.specs.Prelude.{ℕ, ◌+◌, ◌*◌, ◌^◌, List}
use Rattle.std.specs.List.Sorted.{IsPermutation, IsNonDecreasingBy}
use Rattle.symbol_table.specs.declared.target.CodePlace.{CodePlace}
use Rattle.pcrel_rewrite.specs.declared.text_pairs.TextPair.{TextPair}

-- a number that grows with the section and, in a section, with the offset
abbrev pub rank : CodePlace → ℕ
rank p = p.section * 2 ^ 64 + p.offset

-- where a pair begins, and where its access stands
abbrev pub head_of : TextPair → CodePlace
head_of pair = record { section = pair.section; offset = pair.head }

abbrev pub tail_of : TextPair → CodePlace
tail_of pair = record { section = pair.section; offset = pair.tail }

abbrev pub head_rank : TextPair → ℕ
head_rank pair = rank (head_of pair)

abbrev pub tail_rank : TextPair → ℕ
tail_rank pair = rank (tail_of pair)

-- the same pairs, in order of their heads and in order of their tails
pub record AreSortedPairs (heads tails : List TextPair) : Type 0 where
  pub same : IsPermutation heads tails
  pub by_head : IsNonDecreasingBy head_rank heads
  pub by_tail : IsNonDecreasingBy tail_rank tails
