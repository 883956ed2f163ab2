-- returns-in_err: a file that passes the end of data. loop-file-preserved: one file more. returns-clause-end: all files.
use Rattle.std.proofs.Common.{◌<◌, ℕ, ap, sym, ◌∙◌, add-one, arith, length}
use Rattle.elf64_records.specs.FileHeader.{e_shnum}
use Rattle.object_set.specs.Files.{file_at}
use Rattle.object_set.specs.Walks.{items_in, items_before}
use Rattle.std.proofs.lemmas.Result.{err_from_is_err_and}
use Rattle.toc_groups.specs.Runs.{run_end}
use Rattle.toc_groups.specs.Sections.{sort_walk}
use Rattle.toc_groups.proofs.Laying.{file_end, file_past, within_limit}
use Rattle.toc_groups.proofs.pieces.sections_end.Goals as goal

pub returns-in_err-add_sections-clause-refusal : goal.returns-in_err-add_sections-clause-refusal
returns-in_err-add_sections-clause-refusal c =
    let p = err_from_is_err_and c.from_residual.result c.from_residual.ensures.1 in
    let files = c.args.set.now in
    let inside : c.loop-file.file < length files = omega (arith, c.file_count-file-end.ensures.count, c.loop-file-test.true) in
    rw (p.1, p.2) (file_past c.args.sort files c.loop-file.file c.args.start c.loop-file.end c.in_err-add_sections.field-0.0
    c.file_count-file-end.ensures.whole inside c.requires.kept c.loop-file.invariant.end c.in_err-add_sections.ensures.refusal)

pub loop-file-preserved : goal.loop-file-preserved
loop-file-preserved c =
    let files = c.args.set.now in
    let file = c.loop-file.file in
    let b = file_at files file in
    let end = c.in_ok-add_sections.ensures.end in
    let low = within_limit (run_end c.loop-file.end (items_in (sort_walk c.args.sort) file b (e_shnum b)))
    c.in_ok-add_sections.ensures.refusal in
    record {
      low = omega (arith, end, low);
      end = end ∙ file_end c.args.sort files file c.args.start c.loop-file.end c.loop-file.invariant.end
          ∙ ap (λ (n : ℕ). run_end c.args.start (items_before (sort_walk c.args.sort) files n)) (sym (add-one file));
    }
