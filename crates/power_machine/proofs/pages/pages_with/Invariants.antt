use Rattle.std.proofs.Common.{◌≡◌, ◌-◌, ◌≤◌, length, take}
use Rattle.power_machine.specs.Memory.{put}
use Rattle.power_machine.specs.Paging.{byte_in}
use Rattle.power_machine.specs.inside.Paged.{IsTight}
use Rattle.power_machine.proofs.pages.pages_with.Given as goal

-- the first bytes are there
abbrev pub invariant-loop-done : goal.invariant-loop-done
invariant-loop-done l = record {
  within : l.done ≤ length l.bytes;
  len : length l.pages ≡ l.count;
  bytes_are : byte_in l.pages ≡ put (λ k. 0) l.from (take l.done l.bytes);
  tight : IsTight l.pages;
}

abbrev pub decreases-loop-done : goal.decreases-loop-done
decreases-loop-done l = length l.bytes - l.done
