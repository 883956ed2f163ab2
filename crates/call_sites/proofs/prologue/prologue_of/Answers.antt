-- is_some_form-requires: the words of a prologue lie in its section.
use Rattle.std.proofs.Common.{◌≡◌, ℕ, true, List, length, None, sym, ap, ◌∙◌, arith}
use Rattle.elf64_records.specs.Sections.{section_bytes}
use Rattle.object_set.specs.Files.{file_at}
use Rattle.object_set.specs.Refusals.{set_refusal}
use Rattle.symbol_table.specs.Prologue.{has_two_entries}
use Rattle.symbol_table.specs.laws.Prologue.{two_entries_inside}
use Rattle.call_sites.proofs.prologue.prologue_of.Goals as goal

pub is_some_form-requires-clause-within : goal.is_some_form-requires-clause-within
is_some_form-requires-clause-within c =
    let files = c.args.res.now.files in
    let s = c.text_section-file.result in
    let lies = c.text_section-file.ensures.lies in
    let whole : set_refusal files ≡ None = ap set_refusal (sym c.set-set.ensures) ∙ c.file_count-files.ensures.whole in
    let two : has_two_entries (file_at files s.file) s.section c.args.offset ≡ true =
    ap (λ (l : List (List ℕ)). has_two_entries (file_at l s.file) s.section c.args.offset) (sym c.set-set.ensures)
    ∙ sym c.if-not-has_two_entries.ensures in
    let inside = two_entries_inside files s.file s.section c.args.offset whole lies.file_in lies.within lies.text two in
    let here = c.view.ensures ∙ ap (λ (l : List (List ℕ)). file_at l s.file) c.set-set.ensures in
    let size = ap length (c.section.ensures.bytes ∙ ap (λ (b : List ℕ). section_bytes b s.section) here) in
    omega (arith, inside.within, inside.stored, size)
