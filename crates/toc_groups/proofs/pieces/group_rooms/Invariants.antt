use Rattle.std.proofs.Common.{◌≡◌, map, take}
use Rattle.toc_groups.specs.inside.Laid.{room_of}
use Rattle.toc_groups.proofs.pieces.group_rooms.Given as goal

-- the room of the first groups
abbrev pub invariant-loop-group : goal.invariant-loop-group
invariant-loop-group l = l.rooms.items ≡ map room_of (take l.group-index l.groups)
