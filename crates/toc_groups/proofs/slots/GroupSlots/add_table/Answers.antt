-- loop-entry-preserved: one record more.
use Rattle.std.proofs.Common.{ℕ, sym, subst, add-one}
use Rattle.object_set.specs.Files.{file_at}
use Rattle.toc_groups.specs.Slots.{named_at, named_by}
use Rattle.toc_groups.specs.inside.Numbered.{Adds}
use Rattle.toc_groups.proofs.Numbering.{adds_next}
use Rattle.toc_groups.proofs.slots.GroupSlots.add_table.Goals as goal

pub loop-entry-preserved : goal.loop-entry-preserved
loop-entry-preserved c =
    let l = c.args.self.now in
    let b = file_at l.files c.args.file in
    let k = c.loop-entry.entry in
    subst (λ (n : ℕ). Adds (named_by c.args.file b c.args.table n) c.args.file l c.add_record.new.self c.args.row.now.items
    c.add_record.new.row.items) (sym (add-one k))
    (adds_next (λ x. named_at c.args.file x c.args.table k) (named_by c.args.file b c.args.table k) c.args.file l c.loop-entry.self
    c.add_record.new.self c.args.row.now.items c.loop-entry.row.items c.add_record.new.row.items c.loop-entry.invariant
    c.in_ok-add_record.ensures)
