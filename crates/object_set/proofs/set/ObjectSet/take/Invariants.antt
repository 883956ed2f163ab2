use Rattle.std.proofs.Common.{◌≡◌, take, drop}
use Rattle.object_set.specs.Files.{contents_of}
use Rattle.object_set.specs.Refusals.{files_refusal, set_refusal}
use Rattle.object_set.proofs.set.ObjectSet.take.Given as goal

-- the files taken so far are the first files, and what is left refuses as all does
abbrev pub invariant-loop-number : goal.invariant-loop-number
invariant-loop-number l =
    (l.taken.items ≡ contents_of (take l.number l.files))
    × (files_refusal l.number (contents_of (drop l.number l.files)) ≡ set_refusal (contents_of l.files))
