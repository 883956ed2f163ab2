use Rattle.std.proofs.Common.{◌≡◌, length, take}
use Rattle.power_machine.specs.Memory.{bytes_from}
use Rattle.power_machine.specs.Paging.{byte_in}
use Rattle.power_machine.proofs.pages.Pages.number_across.Given as goal

-- the bytes so far
abbrev pub invariant-loop-i : goal.invariant-loop-i
invariant-loop-i l = record {
  room : length l.bytes ≡ 8;
  read : take l.i l.bytes ≡ bytes_from (byte_in l.self) l.from l.i;
}
