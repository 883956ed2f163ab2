use Rattle.layout_rounds.specs.FarSets.{member}
use Rattle.image_writer.specs.inside.Ready.{AreCallerBases}
use Rattle.image_writer.proofs.stubs.caller_bases.Given as goal

-- the bases that the sections so far tell
abbrev pub invariant-loop-s : goal.invariant-loop-s
invariant-loop-s l =
    AreCallerBases l.res.files l.plan.bases l.settled.keyed (member l.settled.far) l.settled.places l.s l.callers.items
