-- loop-s-preserved: one more spot.
use Rattle.std.proofs.Common.{◌∙◌, ap, sym, arith, List, [], ◌∷◌, ◌++◌, map}
use Rattle.std.specs.List.{range_with_len}
use Rattle.std.proofs.lemmas.List.FromFn.{map-range_with_len_more}
use Rattle.layout_rounds.specs.declared.grouping.Spot.{Spot}
use Rattle.layout_rounds.specs.Shapes.{spot_at}
use Rattle.layout_rounds.proofs.grouping.spots_of.Goals as goal

pub loop-s-preserved : goal.loop-s-preserved
loop-s-preserved c =
    let f = spot_at c.args.sections.now c.args.reach in
    let s = c.loop-s.s in
    c.in_ok-push.ensures.items
    ∙ ap (λ (xs : List Spot). xs ++ c.spot_behind-spot.result ∷ []) c.loop-s.invariant
    ∙ ap (λ (x : Spot). map f (range_with_len 0 s) ++ x ∷ []) c.spot_behind-spot.ensures
    ∙ sym (map-range_with_len_more f 0 s s (omega arith))
