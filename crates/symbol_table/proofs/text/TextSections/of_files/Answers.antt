use Rattle.std.proofs.Common.{◌≡◌, ℕ, ◌+◌, sym, subst}
use Rattle.elf64_records.specs.FileHeader.{e_shnum}
use Rattle.object_set.specs.Files.{file_at}
use Rattle.object_set.specs.laws.Rows.{rows_more}
use Rattle.symbol_table.specs.Text.{text_index}
use Rattle.symbol_table.specs.inside.Text.{AreAllTextIndexes}
use Rattle.symbol_table.proofs.text.TextSections.of_files.Goals as goal

-- one file more is numbered
pub loop-file-preserved : goal.loop-file-preserved
loop-file-preserved c =
    let set = c.args.set.now in
    let file = c.loop-file.file in
    let now = c.in_ok-row.ensures in
    let index = λ (f i k : ℕ). k ≡ text_index set f i in
    let more = rows_more index (λ f. e_shnum (file_at set f)) file c.loop-file.indexes.items c.in_ok-row.row
    c.loop-file.invariant.indexes now.indexes in
    record {
      texts = now.texts;
      indexes = subst (AreAllTextIndexes set (file + 1)) (sym c.in_ok-push.ensures.items) more;
    }
