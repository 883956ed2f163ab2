use Rattle.std.proofs.Common.{◌≡◌, ℕ, List, filter, sym, ap, ◌∙◌, subst}
use Rattle.std.specs.List.Sorted.{IsNonDecreasingBy}
use Rattle.std.proofs.lemmas.List.Kept.{IsNonDecreasingBy-filter}
use Rattle.object_set.specs.Files.{file_at}
use Rattle.symbol_table.specs.declared.places.FilePlace.{FilePlace}
use Rattle.symbol_table.specs.inside.Fields.{FileOf}
use Rattle.symbol_table.specs.inside.Places.{rank}
use Rattle.symbol_table.specs.inside.Entries.{has_prologue, AreEntries}
use Rattle.symbol_table.proofs.KeptPrologues.{kept_recognised}
use Rattle.symbol_table.proofs.prologue.Prologues.of_file.Goals as goal

-- those that are kept stay in order
pub invariant_of-places : goal.invariant_of-places
invariant_of-places c =
    let own : FileOf = c.in_ok-fields.fields in
    let items = c.entries.inside.items.items in
    let keep = has_prologue own.file (file_at own.files own.file) in
    let is = c.in_ok-prologues.ensures ∙ ap (filter keep) c.deref.ensures.value in
    subst (IsNonDecreasingBy rank) (sym is) (IsNonDecreasingBy-filter rank keep items c.entries.invariant)

-- and are those of recognised prologues
pub invariant_of-result : goal.invariant_of-result
invariant_of-result c = λ section at within.
    let own : FileOf = c.in_ok-fields.fields in
    let b = file_at own.files own.file in
    let items = c.entries.inside.items.items in
    let keep = has_prologue own.file b in
    let is = c.in_ok-prologues.ensures ∙ ap (filter keep) c.deref.ensures.value in
    let here : file_at c.args.set.now c.args.file ≡ b = ap (λ (f : FileOf). file_at f.files f.file) (sym c.in_ok-fields.ensures) in
    let entries = subst (λ (l : List FilePlace). AreEntries b l) (sym c.entries.view_is)
    (subst (λ (l : List ℕ). AreEntries l c.in_ok-entries.entries) here c.in_ok-entries.ensures) in
    kept_recognised own.file b items c.in_ok-prologues.field-0.items section at entries is within
