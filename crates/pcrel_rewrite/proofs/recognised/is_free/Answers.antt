use Rattle.std.proofs.Common.{◌≡◌, ◌<◌, ◌+◌, ◌-◌, None, ℕ, List, length, sym, ap, ◌∙◌, subst, arith}
use Rattle.std.specs.List.{list_any}
use Rattle.object_set.specs.Files.{file_at}
use Rattle.object_set.specs.Refusals.{set_refusal}
use Rattle.symbol_table.specs.Fields.{fields_of, meets}
use Rattle.symbol_table.specs.Resolved.{section_id}
use Rattle.pcrel_rewrite.proofs.FreePairs.{free_case, pair_end}
use Rattle.pcrel_rewrite.proofs.FilePairs.{asked_within, asked_words}
use Rattle.pcrel_rewrite.proofs.recognised.is_free.Goals as goal

-- the section of a pair that is asked for is text
pub text_of-section-requires : goal.text_of-section-requires
text_of-section-requires c =
    let files = c.args.resolved.now.files in
    let whole : set_refusal files ≡ None = ap set_refusal (sym c.set.ensures) ∙ c.file_count-files.ensures.whole in
    let file_in : c.args.fields.now.file < length files =
    subst (λ (s : List (List ℕ)). c.args.fields.now.file < length s) c.requires.same
    (subst (λ (n : ℕ). n < length c.args.fields.now.files) c.file-file.ensures.number c.file-file.ensures.within) in
    asked_within files c.args.fields.now.file whole file_in c.args.pair c.requires.asked

-- its access ends in the section
pub overflow_add-pair-2 : goal.overflow_add-pair-2
overflow_add-pair-2 c =
    let files = c.args.resolved.now.files in
    let whole : set_refusal files ≡ None = ap set_refusal (sym c.set.ensures) ∙ c.file_count-files.ensures.whole in
    let file_in : c.args.fields.now.file < length files =
    subst (λ (s : List (List ℕ)). c.args.fields.now.file < length s) c.requires.same
    (subst (λ (n : ℕ). n < length c.args.fields.now.files) c.file-file.ensures.number c.file-file.ensures.within) in
    let last = pair_end files c.args.fields.now.file whole file_in c.args.pair c.requires.asked in
    omega (arith, last)

pub has_any-requires : goal.has_any-requires
has_any-requires c =
    let files = c.args.resolved.now.files in
    let whole : set_refusal files ≡ None = ap set_refusal (sym c.set.ensures) ∙ c.file_count-files.ensures.whole in
    let file_in : c.args.fields.now.file < length files =
    subst (λ (s : List (List ℕ)). c.args.fields.now.file < length s) c.requires.same
    (subst (λ (n : ℕ). n < length c.args.fields.now.files) c.file-file.ensures.number c.file-file.ensures.within) in
    let last = pair_end files c.args.fields.now.file whole file_in c.args.pair c.requires.asked in
    omega (arith, last)

-- what is looked up tells
pub returns : goal.returns
returns c =
    let files = c.args.resolved.now.files in
    let file = c.args.fields.now.file in
    let whole : set_refusal files ≡ None = ap set_refusal (sym c.set.ensures) ∙ c.file_count-files.ensures.whole in
    let file_in : file < length files =
    subst (λ (s : List (List ℕ)). file < length s) c.requires.same
    (subst (λ (n : ℕ). n < length c.args.fields.now.files) c.file-file.ensures.number c.file-file.ensures.within) in
    let s = section_id c.text_of-section.result in
    let place = c.text_of-section.ensures in
    let own : s.file ≡ file = (asked_words files file whole file_in c.args.pair s c.requires.asked place).0 in
    let pair = c.args.pair in
    let looked : c.has_any.result
    ≡ list_any (meets s.section (pair.head + 8) (pair.tail + 4 - (pair.head + 8))) (fields_of s.file (file_at files s.file)) =
    c.has_any.ensures
    ∙ ap (λ (l : List (List ℕ)). list_any (meets s.section (pair.head + 8) (pair.tail + 4 - (pair.head + 8)))
    (fields_of file (file_at l file)))
    c.requires.same
    ∙ ap (λ (f : ℕ). list_any (meets s.section (pair.head + 8) (pair.tail + 4 - (pair.head + 8))) (fields_of f (file_at files f)))
    (sym own) in
    free_case files pair s c.has_any.result place looked
