-- What one symbol more asks for.
use Rattle.std.proofs.Common.{ℕ, arith, ap, sym, ◌∙◌, add-one}
use Rattle.ppc_archive.specs.Choice.{asks_at, name_where, names_where}
use Rattle.ppc_archive.specs.inside.Givers.{Chosen, candidate_in, taken_all, chosen}
use Rattle.ppc_archive.proofs.Choosing.{taken_both}
use Rattle.ppc_archive.proofs.choice.take_asked.Goals as goal

pub loop-j-preserved : goal.loop-j-preserved
loop-j-preserved c =
    let b = c.args.view.now in
    let j = c.loop-j.j in
    let given = candidate_in c.args.providers.now in
    let total = c.args.choice.now.total in
    let order = c.args.choice.now.order in
    c.in_ok-take_symbol.ensures
    ∙ ap (λ (o : Chosen). chosen o.total (taken_all given o.order (name_where (asks_at b) b j))) c.loop-j.invariant
    ∙ ap (chosen total) (taken_both given order (names_where (asks_at b) b j) (name_where (asks_at b) b j))
    ∙ ap (λ (n : ℕ). chosen total (taken_all given order (names_where (asks_at b) b n))) (sym (add-one j))

pub take_symbol-requires-clause-below : goal.take_symbol-requires-clause-below
take_symbol-requires-clause-below c = λ name k is.
    let same = ap (λ (o : Chosen). o.total) c.loop-j.invariant in
    let below = c.requires name k is in
    omega (arith, same, below)
