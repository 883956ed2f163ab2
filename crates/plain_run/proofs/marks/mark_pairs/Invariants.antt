use Rattle.std.proofs.Common.{length}
use Rattle.plain_run.specs.inside.Marks.{AreTexts, AllTell, NoneLeft}
use Rattle.plain_run.proofs.marks.mark_pairs.Given as goal

-- the accesses of the first pairs are marked
abbrev pub invariant-loop-pair : goal.invariant-loop-pair
invariant-loop-pair l = record {
  texts : AreTexts l.res.files l.sections.items;
  marks : AllTell l.res.files l.pairs NoneLeft (length l.sites) l.pair-index l.sections.items;
}
