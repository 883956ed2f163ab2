-- Cells that are no numbers stand over all.
use Rattle.std.proofs.Common.{refl}
use Rattle.power_machine.specs.Memory.{byte_at}
use Rattle.plain_machine.specs.inside.Others.{other_at}
use Rattle.plain_machine.proofs.Cells.{special_stand}
use Rattle.plain_machine.proofs.memory.PlainMemory.hold.Goals as goal

pub returns-clause-held : goal.returns-clause-held
returns-clause-held c =
    let m = c.args.self.now in
    record {
      cells_are = λ i a. special_stand (other_at m.others) (other_at c.put.new.self) (byte_at m.numbers.regions.items) c.args.at a c.args.cells.now
          c.requires.special (c.in_ok-put.ensures.ok a) i;
      same_may = refl;
    }
