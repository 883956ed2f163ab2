use Rattle.std.proofs.Common.{◌≡◌, ℕ, List, [], length, ap, ◌∙◌, subst, arith}
use Rattle.pcrel_rewrite.specs.inside.Joins.{Joins, Before}
use Rattle.pcrel_rewrite.specs.inside.Recognised.{IsRecognisedIn}
use Rattle.pcrel_rewrite.proofs.Joining.{joins_more}
use Rattle.pcrel_rewrite.proofs.FoundPairs.{all_found}
use Rattle.pcrel_rewrite.proofs.recognised.pairs.Goals as goal

-- one file more
pub loop-file-preserved : goal.loop-file-preserved
loop-file-preserved c =
    joins_more (IsRecognisedIn c.args.resolved.now.files) c.loop-file.file [] c.loop-file.found.items c.push_file.new.found.items
    c.loop-file.invariant c.in_ok-push_file.ensures

-- those of all files, in another order
pub returns : goal.returns
returns c =
    let files = c.args.resolved.now.files in
    let count = c.file_count-file-end.ensures.count ∙ ap (λ (s : List (List ℕ)). length s) c.set.ensures in
    let all : c.loop-file.file ≡ length files = omega (arith, count) in
    all_found files c.loop-file.found.items c.in_ok-of_list.field-0
    (subst (λ (n : ℕ). Joins (Before (IsRecognisedIn files) n) [] c.loop-file.found.items) all c.loop-file.invariant)
    c.in_ok-of_list.ensures
