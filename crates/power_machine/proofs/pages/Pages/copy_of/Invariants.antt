use Rattle.std.proofs.Common.{◌≡◌, ◌-◌, ◌≤◌, length}
use Rattle.power_machine.specs.Memory.{bytes_from}
use Rattle.power_machine.specs.Paging.{byte_in}
use Rattle.power_machine.proofs.pages.Pages.copy_of.Given as goal

-- the bytes so far
abbrev pub invariant-loop-bytes : goal.invariant-loop-bytes
invariant-loop-bytes l = record {
  within : length l.bytes.items ≤ l.count;
  read : l.bytes.items ≡ bytes_from (byte_in l.self) l.from (length l.bytes.items);
}

abbrev pub decreases-loop-bytes : goal.decreases-loop-bytes
decreases-loop-bytes l = l.count - length l.bytes.items
