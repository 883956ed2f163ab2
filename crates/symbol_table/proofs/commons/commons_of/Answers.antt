use Rattle.std.proofs.Common.{◌≡◌, ◌<◌, ℕ, List, length, arith, ap, ◌+◌, sym, subst}
use Rattle.symbol_table.specs.Candidates.{commons_before}
use Rattle.symbol_table.specs.inside.Commons.{AreCommonNumbers}
use Rattle.symbol_table.proofs.NumberedCommons.{commons_more}
use Rattle.object_set.specs.laws.Rows.{row_more}
use Rattle.symbol_table.proofs.commons.commons_of.Goals as goal

-- one name more
pub loop-i-preserved : goal.loop-i-preserved
loop-i-preserved c =
    let candidates = c.args.candidates.now in
    let i = c.loop-i.i in
    let before = c.loop-i.invariant in
    let lens = ap length before.sizes in
    let count : c.len.result ≡ length (commons_before candidates i) = omega (arith, lens) in
    let within : i < length candidates = omega arith in
    let more = row_more (λ j k. k ≡ length (commons_before candidates j)) i c.loop-i.numbers.items c.len.result before.numbers count in
    record {
      sizes = commons_more candidates i _ c.loop-i.sizes.items c.push_common.new.sizes.items within before.sizes
          c.in_ok-push_common.ensures;
      numbers = subst (AreCommonNumbers candidates (i + 1)) (sym {A = List ℕ} c.in_ok-push.ensures.items) more;
    }
