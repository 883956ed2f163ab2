use Rattle.std.proofs.Common.{List}
use Rattle.std.specs.List.{All}
use Rattle.object_set.specs.Walks.{IsRecord}
use Rattle.pcrel_rewrite.specs.declared.text_pairs.TextPair.{TextPair}
use Rattle.plain_run.specs.inside.Marks.{AreTexts, AllTell, LeftOf}
use Rattle.plain_run.proofs.marks.mark_records.Given as goal

-- the words of all records that aren't left are marked
abbrev pub invariant-loop-id : goal.invariant-loop-id
invariant-loop-id l = record {
  records : All (IsRecord l.res.files) l.id-iterator;
  texts : AreTexts l.res.files l.sections.items;
  marks : (pairs : List TextPair) → AllTell l.res.files pairs (LeftOf l.id-iterator) 0 0 l.sections.items;
}
