-- What is left at the start is all.
use Rattle.std.proofs.Common.{◌≡◌, ◌-◌, length, ap, ◌∙◌, arith}
use Rattle.object_set.specs.inside.Cursor.{pair_walk}
use Rattle.object_set.specs.inside.Left.{files_left}
use Rattle.object_set.specs.laws.Walks.{all_left}
use Rattle.object_set.proofs.walk.Cursor.new.Goals as goal

pub returns : goal.returns
returns c =
    let set = c.args.set.now in
    let whole : length set - 0 ≡ length set = omega arith in
    ap (files_left (pair_walk c.args.numbers) set 0) whole ∙ all_left (pair_walk c.args.numbers) set
