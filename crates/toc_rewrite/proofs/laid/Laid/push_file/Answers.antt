-- loop-table-preserved: one section more. returns: all sections.
use Rattle.std.proofs.Common.{◌≡◌, List, ℕ, sym, ap, ◌∙◌, subst, arith}
use Rattle.elf64_records.specs.FileHeader.{e_shnum}
use Rattle.object_set.specs.Files.{file_at}
use Rattle.object_set.specs.Walks.{items_in, record_walk}
use Rattle.symbol_table.specs.inside.Fields.{FileOf}
use Rattle.toc_rewrite.specs.inside.Laid.{IsFileOf}
use Rattle.toc_rewrite.specs.inside.Slots.{HasFound}
use Rattle.toc_rewrite.proofs.FoundRecords.{table_found}
use Rattle.toc_rewrite.proofs.laid.Laid.push_file.Goals as goal

pub loop-table-preserved : goal.loop-table-preserved
loop-table-preserved c =
    record {
      found = table_found c.args.self.now c.args.file c.loop-table.table c.args.found.now c.loop-table.found c.push_table.new.found
          c.loop-table.invariant.found c.in_ok-push_table.ensures.found;
      file = subst (λ (f : FileOf). IsFileOf f c.args.self.now.files c.args.file) (sym c.in_ok-push_table.ensures.same)
          c.loop-table.invariant.file;
    }

pub returns : goal.returns
returns c =
    let files = c.args.self.now.files in
    let file = c.args.file in
    let b = file_at files file in
    let count : c.section_count-table-end.result ≡ e_shnum b =
    c.section_count-table-end.ensures.count
    ∙ ap e_shnum (c.view.ensures ∙ ap (λ (s : List (List ℕ)). file_at s file) (c.set-set.ensures ∙ c.resolved.ensures.files)) in
    let all : c.loop-table.table ≡ e_shnum b = omega (arith, count, c.loop-table-test.false) in
    subst (λ (n : ℕ). HasFound c.args.self.now (items_in record_walk file b n) c.args.found.now c.loop-table.found) all
    c.loop-table.invariant.found
