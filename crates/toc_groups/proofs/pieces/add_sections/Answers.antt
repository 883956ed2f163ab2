-- returns-in_err: a section that passes the end of data. loop-section-preserved: one section more. returns-clause-end: all sections.
use Rattle.std.proofs.Common.{◌≡◌, ◌<◌, ℕ, ap, sym, ◌∙◌, add-one, arith}
use Rattle.elf64_records.specs.FileHeader.{e_shnum}
use Rattle.object_set.specs.Files.{file_at}
use Rattle.object_set.specs.Walks.{items_in}
use Rattle.std.proofs.lemmas.Result.{err_from_is_err_and}
use Rattle.toc_groups.specs.Runs.{run_end}
use Rattle.toc_groups.specs.Sections.{extent_at, sort_walk}
use Rattle.toc_groups.proofs.Laying.{section_end, section_past, within_limit}
use Rattle.toc_groups.proofs.pieces.add_sections.Goals as goal

pub returns-in_err-add_section-clause-refusal : goal.returns-in_err-add_section-clause-refusal
returns-in_err-add_section-clause-refusal c =
    let p = err_from_is_err_and c.from_residual.result c.from_residual.ensures.1 in
    let files = c.args.set.now in
    let count = c.section_count-section-end.ensures.count ∙ ap e_shnum c.view.ensures in
    let inside : c.loop-section.section < e_shnum (file_at files c.args.file) = omega (arith, count, c.loop-section-test.true) in
    rw (p.1, p.2) (section_past c.args.sort files c.args.file c.loop-section.section c.args.end.now c.loop-section.end
    c.in_err-add_section.field-0.0 c.requires.whole c.requires.file inside c.requires.kept c.loop-section.invariant.end
    c.in_err-add_section.ensures.refusal)

pub loop-section-preserved : goal.loop-section-preserved
loop-section-preserved c =
    let b = file_at c.args.set.now c.args.file in
    let i = c.loop-section.section in
    let end = c.in_ok-add_section.ensures.end in
    let low = within_limit (run_end c.loop-section.end (extent_at c.args.sort c.args.file b i)) c.in_ok-add_section.ensures.refusal in
    record {
      low = omega (arith, end, low);
      end = end ∙ section_end c.args.sort c.args.set.now c.args.file i c.args.end.now c.loop-section.end c.loop-section.invariant.end
          ∙ ap (λ (n : ℕ). run_end c.args.end.now (items_in (sort_walk c.args.sort) c.args.file b n)) (sym (add-one i));
    }

pub returns-clause-end : goal.returns-clause-end
returns-clause-end c =
    let b = file_at c.args.set.now c.args.file in
    let count = c.section_count-section-end.ensures.count ∙ ap e_shnum c.view.ensures in
    let all : c.loop-section.section ≡ e_shnum b =
    omega (arith, count, c.loop-section.auto.section-end, c.loop-section-test.false) in
    c.loop-section.invariant.end ∙ ap (λ (n : ℕ). run_end c.args.end.now (items_in (sort_walk c.args.sort) c.args.file b n)) all
