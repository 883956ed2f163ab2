use Rattle.std.proofs.Common.{◌≡◌, length}
use Rattle.object_set.specs.inside.Records.{all_records_left, AreWithin}
use Rattle.object_set.proofs.walk.RecordIds.advance.Given as goal

-- as much is left as at first
abbrev pub invariant-loop-self : goal.invariant-loop-self
invariant-loop-self l =
    let r = l.self-inside in
    record { left : all_records_left r.set.now r.next r.end r.sections ≡ l.fn.self; within : AreWithin r.set.now r.next r.end r.sections }

abbrev pub decreases-loop-self : goal.decreases-loop-self
decreases-loop-self l = length l.self-inside.sections
