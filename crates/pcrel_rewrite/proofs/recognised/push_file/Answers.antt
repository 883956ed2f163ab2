use Rattle.std.proofs.Common.{◌≡◌, ℕ, length, None, sym, ap, ◌∙◌, subst, arith}
use Rattle.std.proofs.lemmas.Bool.Decides.{nat_tests}
use Rattle.std.proofs.lemmas.Grind.{common_steps}
use Rattle.object_set.specs.Refusals.{set_refusal}
use Rattle.symbol_table.specs.inside.Fields.{FileOf}
use Rattle.pcrel_rewrite.specs.inside.Recognised.{AskedOf}
use Rattle.pcrel_rewrite.proofs.FoundPairs.{none_found, gathered_in_order, file_found}
use Rattle.pcrel_rewrite.proofs.recognised.push_file.Goals as goal

-- nothing is asked for
pub returns-then-is_empty : goal.returns-then-is_empty
returns-then-is_empty c =
    let none : length c.in_ok-gathered.gathered.asked.items ≡ 0 = grind (arith, common_steps, nat_tests) in
    none_found c.args.resolved.now.files c.args.file c.in_ok-gathered.gathered.asked.items c.args.found.now.items
    c.in_ok-gathered.ensures.asked_are none

-- each of the pairs in order is asked for
pub push_taken-requires-clause-asked : goal.push_taken-requires-clause-asked
push_taken-requires-clause-asked c = λ pair held.
    let files = c.args.resolved.now.files in
    let file : c.in_ok-fields.fields.file ≡ c.args.file = ap (λ (f : FileOf). f.file) c.in_ok-fields.ensures in
    subst (λ (n : ℕ). AskedOf files n pair) (sym file)
    (gathered_in_order (AskedOf files c.args.file) c.in_ok-gathered.gathered.asked.items c.sort_heads.new.pairs.items c.deref-2.result.now
    c.in_ok-gathered.ensures.asked_are c.sort_heads.ensures.same c.deref-2.ensures.value pair held)

-- those that are taken are the recognised ones
pub returns : goal.returns
returns c =
    let files = c.args.resolved.now.files in
    let whole : set_refusal files ≡ None = ap set_refusal (sym c.set-set.ensures) ∙ c.file_count-files.ensures.whole in
    file_found files c.args.file whole c.requires c.in_ok-gathered.gathered.asked.items c.sort_heads.new.pairs.items c.deref-2.result.now
    c.in_ok-gathered.gathered.loads.items c.sort_places.new.places.items c.deref.result.now c.in_ok-gathered.ensures.asked_are
    c.sort_heads.ensures.same
    c.deref-2.ensures.value c.in_ok-gathered.ensures.loads_are c.sort_places.ensures.same c.deref.ensures.value c.args.found.now.items
    c.push_taken.new.found.items c.in_ok-push_taken.ensures
