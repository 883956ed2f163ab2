use Rattle.std.proofs.Common.{◌≡◌, map}
use Rattle.std.specs.List.{range_with_len}
use Rattle.layout_rounds.specs.Shapes.{spot_at}
use Rattle.layout_rounds.proofs.grouping.spots_of.Given as goal

-- the spots of the sections so far
abbrev pub invariant-loop-s : goal.invariant-loop-s
invariant-loop-s l = l.spots.items ≡ map (spot_at l.sections l.reach) (range_with_len 0 l.s)
