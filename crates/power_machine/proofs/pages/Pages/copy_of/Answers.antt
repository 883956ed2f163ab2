-- A piece more.
use Rattle.std.proofs.Common.{arith, ap, length, ◌+◌}
use Rattle.std.proofs.lemmas.List.{length-append}
use Rattle.power_machine.specs.Memory.{bytes_from}
use Rattle.power_machine.specs.Paging.{byte_in}
use Rattle.power_machine.proofs.Lists.{length-bytes, more_pushed}
use Rattle.power_machine.proofs.pages.Pages.copy_of.Goals as goal

pub loop-bytes-preserved : goal.loop-bytes-preserved
loop-bytes-preserved c =
    let f = byte_in c.args.self.now in
    let n = c.count_on_page-size.result in
    let at = c.args.from + c.len-in-loop-bytes.result in
    let more = ap length c.in_ok-push_on.ensures in
    let sum = length-append c.loop-bytes.bytes.items (bytes_from f at n) in
    let long = length-bytes f at n in
    record {
      within = omega (arith, more, sum, long, c.count_on_page-size.ensures.within);
      read = more_pushed f c.args.from n at c.loop-bytes.bytes.items _ c.loop-bytes.invariant.read (omega arith) c.in_ok-push_on.ensures;
    }
