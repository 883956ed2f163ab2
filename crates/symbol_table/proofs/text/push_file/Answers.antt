use Rattle.std.proofs.Common.{◌≡◌, length, arith, ap, List, ℕ, ◌+◌, ◌++◌, ◌∙◌, sym, subst}
use Rattle.elf64_records.specs.FileHeader.{e_shnum}
use Rattle.object_set.specs.declared.places.SectionId.{SectionId}
use Rattle.object_set.specs.Files.{file_at}
use Rattle.object_set.specs.Walks.{items_before, items_in}
use Rattle.object_set.specs.laws.Walks.{items_step, files_step, length-items}
use Rattle.object_set.specs.laws.Rows.{row_more}
use Rattle.symbol_table.specs.Text.{text_walk, text_at, text_index}
use Rattle.symbol_table.specs.inside.Text.{AreTextIndexes}
use Rattle.symbol_table.proofs.text.push_file.Goals as goal

-- one section more is numbered
pub loop-section-preserved : goal.loop-section-preserved
loop-section-preserved c =
    let set = c.args.set.now in
    let file = c.args.file in
    let i = c.loop-section.section in
    let before = c.loop-section.invariant in
    let count : c.len-in-loop-section.result ≡ length c.loop-section.texts.items = omega arith in
    let this = count ∙ ap length before.texts ∙ length-items text_walk set file i in
    let more = row_more (λ j k. k ≡ text_index set file j) i c.loop-section.items.items c.len-in-loop-section.result before.indexes this in
    record {
      texts = c.in_ok-push_text.ensures ∙ ap (λ (t : List SectionId). t ++ text_at file (file_at set file) i) before.texts
          ∙ items_step text_walk set file i;
      indexes = subst (AreTextIndexes set file (i + 1)) (sym c.in_ok-push.ensures.items) more;
    }

-- all sections of the file are numbered
pub returns-clause-texts : goal.returns-clause-texts
returns-clause-texts c =
    let set = c.args.set.now in
    let file = c.args.file in
    let b = file_at set file in
    let count = c.section_count-section-end.ensures.count ∙ ap e_shnum c.view.ensures in
    let all : c.loop-section.section ≡ e_shnum b = omega (arith, count) in
    c.loop-section.invariant.texts
    ∙ ap (λ (n : ℕ). items_before text_walk set file ++ items_in text_walk file b n) all
    ∙ files_step text_walk set file
