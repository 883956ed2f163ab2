use Rattle.plain_run.specs.inside.Marks.{AreTexts, AllTell, NoneLeft}
use Rattle.plain_run.proofs.marks.mark_calls.Given as goal

-- the first calls are marked
abbrev pub invariant-loop-number : goal.invariant-loop-number
invariant-loop-number l = record {
  texts : AreTexts l.res.files l.sections.items;
  marks : AllTell l.res.files l.pairs NoneLeft l.number 0 l.sections.items;
}
