-- A store puts the low bytes of its register.
use Rattle.std.proofs.Common.{◌∙◌, ap, take}
use Rattle.power_insns.specs.Arithmetic.{bytes_of}
use Rattle.power_machine.specs.Bytes.{bytes_of_long}
use Rattle.power_machine.proofs.Storing.{store_acts}
use Rattle.power_machine.proofs.state.Core.store.Goals as goal

pub returns : goal.returns
unfolding bytes_of_long
returns c =
    store_acts c.args.self.now c.go_on.new.self c.write.new.self c.args.size c.args.width c.args.from c.args.update c.args.at _ _
    c.size_of-count.ensures c.in-Whole.ensures.writes.0 c.in-Whole.ensures.writes.1 c.in-Whole.ensures.ranges
    (ap (λ n. take n c.to_le_bytes-bytes.result) c.size_of-count.ensures ∙ ap (take (bytes_of c.args.width)) c.to_le_bytes-bytes.ensures)
    c.go_on.ensures.at c.go_on.ensures.registers c.go_on.ensures.condition c.go_on.ensures.memory
