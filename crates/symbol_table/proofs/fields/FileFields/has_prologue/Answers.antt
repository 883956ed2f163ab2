use Rattle.std.proofs.Common.{◌≡◌, ◌<◌, true, None, List, ℕ, length, sym, ap, ◌∙◌, subst, arith}
use Rattle.elf64_records.specs.FileHeader.{e_shnum}
use Rattle.elf64_records.specs.Sections.{section_bytes}
use Rattle.object_set.specs.Files.{file_at}
use Rattle.object_set.specs.Refusals.{set_refusal}
use Rattle.object_set.specs.Sections.{is_text, is_text_sort}
use Rattle.symbol_table.specs.inside.Fields.{FileOf}
use Rattle.symbol_table.specs.laws.Prologue.{two_entries_inside}
use Rattle.symbol_table.proofs.fields.FileFields.has_prologue.Goals as goal

-- the two words lie in the section
pub has_some_form-requires-clause-within : goal.has_some_form-requires-clause-within
has_some_form-requires-clause-within c =
    let section = c.args.place.section in
    let own : FileOf = c.args.self.now in
    let b = file_at own.files own.file in
    let whole : set_refusal own.files ≡ None = ap set_refusal (sym c.set-set.ensures) ∙ c.file_count-files.ensures.whole in
    let file_in : own.file < length own.files =
    subst (λ (n : ℕ). n < length own.files) c.file-file.ensures.number c.file-file.ensures.within in
    let here : file_at c.set-set.result.now c.file-file.result ≡ b =
    ap (λ (s : List (List ℕ)). file_at s c.file-file.result) c.set-set.ensures ∙ ap (file_at own.files) c.file-file.ensures.number in
    let shown : c.view-view.result.now ≡ b = c.view-view.ensures ∙ here in
    let count : c.section_count.result ≡ e_shnum b = c.section_count.ensures.count ∙ ap e_shnum shown in
    let within : section < e_shnum b = omega (arith, count, c.if-section-section_count.false) in
    let text : is_text b section ≡ true =
    ap (λ (l : List ℕ). is_text l section) (sym here) ∙ ap is_text_sort (sym c.sort_of.ensures) ∙ sym c.if-not-is_text.ensures in
    let inside = two_entries_inside own.files own.file section c.args.place.offset whole file_in within text c.requires in
    let bytes : c.section.result.bytes.now ≡ section_bytes b section =
    c.section.ensures.bytes ∙ ap (λ (l : List ℕ). section_bytes l section) shown in
    let size = ap length bytes in
    omega (arith, inside.within, inside.stored, size)
