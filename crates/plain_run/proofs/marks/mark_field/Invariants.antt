use Rattle.std.proofs.Common.{◌∷◌, List}
use Rattle.object_set.specs.declared.places.RecordId.{RecordId}
use Rattle.pcrel_rewrite.specs.declared.text_pairs.TextPair.{TextPair}
use Rattle.plain_run.specs.inside.Marks.{AreTexts, AllTell, LeftFrom, LeftOf}
use Rattle.plain_run.proofs.marks.mark_field.Given as goal

-- the words so far are marked, those from this one on are left
abbrev pub invariant-loop-word : goal.invariant-loop-word
invariant-loop-word l = record {
  texts : AreTexts l.res.files l.sections.items;
  marks : (pairs : List TextPair) (rest : List RecordId) → AllTell l.res.files pairs (LeftOf (l.id ∷ rest)) 0 0 l.initial.sections.items →
      AllTell l.res.files pairs (LeftFrom rest l.id l.word) 0 0 l.sections.items;
}
