-- The numbers of memory are those that calls read.
use Rattle.std.proofs.Common.{ℕ, List, Option, ◌≡◌, sym, subst, slice_index}
use Rattle.std.specs.Result.{IfOk}
use Rattle.power_machine.specs.Memory.{bytes_from}
use Rattle.plain_machine.specs.inside.Core.{plain_state}
use Rattle.plain_machine.proofs.Performing.{same_numbers}
use Rattle.plain_machine.proofs.state.PlainCore.numbers_at.Goals as goal

pub returns : goal.returns
returns c =
    let core = c.args.self.now in
    subst (λ (o : Option (List ℕ)). IfOk c.numbers_at.result (λ bytes. bytes ≡ o))
    (sym (same_numbers (slice_index core.sizes.items) (bytes_from (plain_state core).byte c.args.at c.args.count)))
    c.numbers_at.ensures
