use Rattle.std.proofs.Common.{◌≡◌, ◌-◌, length}
use Rattle.object_set.specs.inside.Cursor.{pairs_left, IsWithin}
use Rattle.object_set.proofs.walk.Cursor.advance.Given as goal

-- as much is left as at first
abbrev pub invariant-loop-self : goal.invariant-loop-self
invariant-loop-self l =
    let c = l.self-inside in
    record {
      left : pairs_left c.numbers c.set.now c.file c.number c.end c.next ≡ l.fn.self;
      within : IsWithin c.set.now c.number c.end c.next;
    }

abbrev pub decreases-loop-self : goal.decreases-loop-self
decreases-loop-self l = length l.self-inside.set.now - l.self-inside.next
