-- One byte more.
use Rattle.std.proofs.Common.{◌∙◌, arith}
use Rattle.std.proofs.lemmas.List.{length-set}
use Rattle.power_machine.specs.Paging.{byte_in}
use Rattle.power_machine.proofs.Lists.{more_taken, width_most}
use Rattle.power_machine.proofs.pages.Pages.number_across.Goals as goal

pub loop-i-preserved : goal.loop-i-preserved
loop-i-preserved c = record {
  room = length-set c.loop-i.bytes c.loop-i.i c.byte.result ∙ c.loop-i.invariant.room;
  read = more_taken (byte_in c.args.self.now) c.args.from c.loop-i.i c.loop-i.bytes c.byte.result
      (let w = width_most c.args.width in omega (arith, w, c.size_of-i-end.ensures, c.loop-i.invariant.room))
      c.loop-i.invariant.read c.byte.ensures;
}
