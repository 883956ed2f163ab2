-- Behind a field that doesn't begin before a place, none does.
use Rattle.std.proofs.Common.{◌≡◌, ◌≤◌, false, ltb, ap, ◌∙◌, sym, arith}
use Rattle.std.specs.List.{slice_index_or}
use Rattle.std.proofs.lemmas.List.{get_or_default}
use Rattle.symbol_table.specs.inside.Fields.{rank_of}
use Rattle.symbol_table.specs.inside.Places.{rank}
use Rattle.symbol_table.proofs.FieldWindows.{not_before}
use Rattle.symbol_table.proofs.ordered_fields.walk_before.Goals as goal

pub returns-then-not-is_before-clause-after : goal.returns-then-not-is_before-clause-after
returns-then-not-is_before-clause-after c = λ k d past within.
    let fields = c.args.fields.now in
    let up : rank_of (slice_index_or fields c.loop-i.i d) ≤ rank_of (slice_index_or fields k d) = c.requires c.loop-i.i k d past within in
    let here : rank c.place.result ≡ rank_of (slice_index_or fields c.loop-i.i d) =
    ap rank c.place.ensures ∙ ap rank_of (get_or_default fields c.loop-i.i _ d c.loop-i-test.true) in
    let test : ltb (rank c.place.result) (rank c.args.place) ≡ false = sym c.is_before.ensures ∙ c.if-not-is_before.true in
    let least = not_before (rank c.place.result) (rank c.args.place) test in
    omega (arith, up, here, least)
