use Rattle.std.proofs.Common.{◌≡◌, ◌-◌, ◌≤◌, length, take}
use Rattle.power_machine.specs.Memory.{put}
use Rattle.power_machine.specs.Paging.{byte_in}
use Rattle.power_machine.specs.inside.Paged.{kept_in}
use Rattle.power_machine.proofs.pages.Pages.put.Given as goal

-- the first bytes are there
abbrev pub invariant-loop-done : goal.invariant-loop-done
invariant-loop-done l = record {
  within : l.done ≤ length l.fn.bytes;
  len : length l.self ≡ length l.fn.self;
  kept : kept_in l.self ≡ kept_in l.fn.self;
  bytes_are : byte_in l.self ≡ put (byte_in l.fn.self) l.fn.from (take l.done l.fn.bytes);
}

abbrev pub decreases-loop-done : goal.decreases-loop-done
decreases-loop-done l = length l.fn.bytes - l.done
