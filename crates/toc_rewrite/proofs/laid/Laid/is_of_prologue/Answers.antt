-- returns-then-is_prologue_kind-clause-is: a record of these kinds that isn't refused is of a recognised prologue.
use Rattle.std.proofs.Common.{◌≡◌, true, Bool, ℕ, List, ◌&&◌, sym, ap, ◌∙◌}
use Rattle.object_set.specs.Files.{file_at}
use Rattle.object_set.specs.Symbols.{is_toc_base}
use Rattle.symbol_table.specs.Records.{is_in_prologue}
use Rattle.toc_rewrite.specs.Records.{facts_of}
use Rattle.toc_rewrite.proofs.SoundRecords.{of_prologue}
use Rattle.toc_rewrite.proofs.laid.Laid.is_of_prologue.Goals as goal

pub returns-then-is_prologue_kind-clause-is : goal.returns-then-is_prologue_kind-clause-is
returns-then-is_prologue_kind-clause-is c =
    let files = c.args.self.now.files in
    let id = c.args.id in
    let b = file_at files id.file in
    let symbol = c.facts-rela.result.symbol in
    let here : file_at c.set.result.now id.file ≡ b =
    ap (λ (s : List (List ℕ)). file_at s id.file) (c.set.ensures ∙ c.resolved.ensures.files) in
    let base : is_toc_base b (facts_of files id).symbol ≡ true =
    ap (is_toc_base b) (sym c.facts-rela.ensures.symbol)
    ∙ ap (λ (l : List ℕ). is_toc_base l symbol) (sym here)
    ∙ sym c.if-not-is_toc_base.ensures in
    let inside = of_prologue files id c.resolved.ensures.whole c.requires.record c.kind.result c.kind.ensures
    (sym c.if-is_prologue_kind.ensures) in
    sym (ap (λ (x : Bool). x && is_in_prologue id.file b id.section (facts_of files id).offset) base ∙ inside)
