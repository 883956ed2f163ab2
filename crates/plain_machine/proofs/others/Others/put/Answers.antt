-- Cells that lie in two doublewords.
use Rattle.std.proofs.Common.{refl, ◌∙◌}
use Rattle.plain_machine.specs.inside.Others.{other_at}
use Rattle.plain_machine.proofs.Doublewords.{put_in_both}
use Rattle.plain_machine.proofs.others.Others.put.Goals as goal

pub returns-then-last-first-clause-ok : goal.returns-then-last-first-clause-ok
returns-then-last-first-clause-ok c a =
    put_in_both (other_at c.args.self.now) (other_at c.make_room-2.new.self) (other_at c.put_in.new.self)
    (other_at c.put_in-then-last-first.new.self) _ _ c.args.at a c.args.cells.now
    (c.make_room-2.ensures.same a ∙ c.make_room.ensures.same a)
    (c.put_in.ensures.put a) (c.put_in-then-last-first.ensures.put a) c.requires.few refl refl
