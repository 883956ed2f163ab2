-- loop-file-preserved: one file more. returns: all files.
use Rattle.std.proofs.Common.{◌≤◌, ◌+◌, ◌*◌, ◌^◌, ℕ, List, slice_index, sym, ap, ◌∙◌, subst, arith}
use Rattle.elf64_records.specs.FileHeader.{e_shnum}
use Rattle.object_set.specs.Walks.{section_walk, index_of}
use Rattle.toc_rewrite.proofs.Sections.{map_more, first_more, bounded_more}
use Rattle.toc_rewrite.proofs.laid.firsts_of.Goals as goal

pub loop-file-preserved : goal.loop-file-preserved
loop-file-preserved c =
    let files = c.args.set.now in
    let file = c.loop-file.file in
    let before = c.loop-file.invariant in
    let f : ℕ → ℕ = λ n. index_of section_walk files n 0 in
    let sections = c.section_count.ensures.count ∙ ap e_shnum c.view.ensures in
    let more = first_more files file in
    let fits = c.section_count.type_inv in
    record {
      items = map_more f file c.loop-file.items.items c.push.new.self.items c.loop-file.count before.items c.in_ok-push.ensures.items
          before.count;
      count = omega (arith, before.count, sections, more, c.from-count.ensures);
      few = omega (arith, before.few, fits, c.from-count.ensures);
      low = λ k. subst (λ (l : List ℕ). slice_index l k ≤ (file + 1) * 2 ^ 32) (sym c.in_ok-push.ensures.items)
          (bounded_more c.loop-file.items.items c.loop-file.count ((file + 1) * 2 ^ 32)
          (λ j. let low = before.low j in omega (arith, low)) (omega (arith, before.few)) k);
    }
