use Rattle.std.proofs.Common.{ℕ, ℤ, ◌≡◌, ◌-◌, ap, ◌∙◌, arith, to_z, of_z}
use Rattle.std.specs.Int.{w128}
use Rattle.std.proofs.lemmas.Int.{ints}
use Rattle.placed_bytes.specs.Patches.{patched, number_patch}
use Rattle.toc_groups.specs.Values.{field_address, record_value}
use Rattle.toc_rewrite.specs.Uses.{number_of}
use Rattle.toc_rewrite.specs.Words.{folded_word}
use Rattle.image_writer.proofs.toc_loads.put_folded.Goals as goal

-- the word that it becomes, at its place
pub returns-clause-put : goal.returns-clause-put
returns-clause-put c =
    let load = c.args.load.now in
    let kept : to_z w128 (of_z w128 c.args.own) ≡ c.args.own = omega (arith, ints, c.ranges.own.sfits) in
    let own = kept ∙ c.requires.own in
    let number = c.number.ensures in
    let kept_number : to_z w128 (of_z w128 c.number.result) ≡ c.number.result = omega (arith, ints, c.number.type_inv) in
    let x : to_z w128 (of_z w128 c.number.result) ≡ number_of load (record_value c.args.res.now.files c.args.plan.now.span
    c.args.places.now.sections c.args.id load.kind) = kept_number ∙ number ∙ ap (number_of load) own in
    let at = ap (λ (n : ℕ). c.field_address.result - n) c.text_start.ensures
    ∙ ap (λ (n : ℕ). n - c.args.plan.now.text_start) c.field_address.ensures in
    let word = c.fold_word-word.ensures ∙ ap (λ (y : ℤ). folded_word load.kind load.word y c.is_folded_load.result) x
    ∙ ap (folded_word load.kind load.word (number_of load (record_value c.args.res.now.files c.args.plan.now.span
    c.args.places.now.sections c.args.id load.kind))) c.is_folded_load.ensures in
    c.put_word.ensures
    ∙ ap (λ (a : ℕ). patched c.args.text.now (number_patch 4 a c.fold_word-word.result)) at
    ∙ ap (λ (w : ℕ). patched c.args.text.now (number_patch 4 (field_address c.args.res.now.files c.args.plan.now.span
    c.args.places.now.sections c.args.id - c.args.plan.now.text_start) w)) word
