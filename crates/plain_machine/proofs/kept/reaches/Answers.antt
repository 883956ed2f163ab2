-- loop-range-preserved: with one more range it is known how far the ranges reach.
use Rattle.std.proofs.Common.{◌≡◌, ◌+◌, ◌∷◌, [], ℕ, List, sym, ap, ◌∙◌, arith, rules, length, length-append, take, slice_get}
use Rattle.std.specs.List.{fold}
use Rattle.std.proofs.lemmas.List.Sums.{fold_more}
use Rattle.plain_machine.specs.inside.Kept.{farther}
use Rattle.plain_machine.proofs.KeptRanges.{get_pushed}
use Rattle.plain_machine.proofs.kept.reaches.Goals as goal

pub loop-range-preserved : goal.loop-range-preserved
loop-range-preserved c =
    let ranges = c.args.ranges.now in
    let i = c.loop-range.range-index in
    let before = c.loop-range.invariant in
    let items = c.loop-range.reaches.items in
    let pushed = c.in_ok-push.ensures.items in
    let f : ℕ → ℕ = λ n. fold farther 0 (take n ranges) in
    let next : c.farther-reach.result ≡ f (i + 1) =
    let more = fold_more farther 0 ranges i in let e = c.farther-reach.ensures in let b = before.0 in search (rules, more, e, b) in
    let many = before.1 in
    let last : c.farther-reach.result ≡ f (length items) = next ∙ ap f (sym many) in (
      next,
      ap length pushed ∙ length-append items (c.farther-reach.result ∷ []) ∙ ap (λ n. n + 1) many,
      λ n within. ap (λ (l : List ℕ). slice_get l n) pushed
          ∙ get_pushed f items c.farther-reach.result last (λ k lt. before.2 k (omega (arith, lt, many))) n (omega (arith, within, many)),
    )
