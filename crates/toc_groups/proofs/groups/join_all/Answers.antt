-- overflow_cast-len: groups are no more than files. loop-file-preserved: one file more has joined.
use Rattle.std.proofs.Common.{ℕ, suc, List, length, ap, sym, subst, ◌∙◌, add-one, arith}
use Rattle.toc_groups.specs.declared.groups.TocGroup.{TocGroup}
use Rattle.toc_groups.specs.Groups.{group_after}
use Rattle.toc_groups.specs.inside.Numbered.{SlotList}
use Rattle.toc_groups.specs.inside.Open.{IsJoined}
use Rattle.toc_groups.proofs.Grouping.{full_count, number_most, more_joined}
use Rattle.toc_groups.proofs.groups.join_all.Goals as goal

pub overflow_cast-len : goal.overflow_cast-len
overflow_cast-len c =
    let files = c.args.set.now in
    let file = c.loop-file.file in
    let before = c.loop-file.invariant in
    let is : IsJoined files c.args.span file c.in_ok-open_group.field-0 =
    subst (λ (f : List (List ℕ)). IsJoined f c.args.span file c.in_ok-open_group.field-0) before.files c.in_ok-open_group.ensures in
    let count = full_count files c.args.span file c.loop-file.groups.items c.in_ok-open_group.field-0.full before.joined.count is.full in
    let long = ap (λ (l : List TocGroup). length l) c.in_ok-push_full.ensures in
    omega (
      arith,
      c.len.ensures,
      c.push_full.new.groups.ok.0,
      long,
      count,
      number_most files c.args.span (suc file),
      c.loop-file-test.true,
      c.file_count-file-end.ensures.few,
    )

pub loop-file-preserved : goal.loop-file-preserved
loop-file-preserved c =
    let files = c.args.set.now in
    let file = c.loop-file.file in
    let before = c.loop-file.invariant in
    let joined = c.in_ok-open_group.field-0 in
    let is : IsJoined files c.args.span file joined =
    subst (λ (f : List (List ℕ)). IsJoined f c.args.span file joined) before.files c.in_ok-open_group.ensures in
    record {
      open_group = is.open_group;
      files = ap (λ (l : SlotList). l.files) is.open_group.slots;
      first = is.first ∙ ap (λ (n : ℕ). (group_after files c.args.span n).first) (sym (add-one file));
      joined = more_joined files c.args.span file c.len.result c.loop-file.groups.items c.push_full.new.groups.items
          c.loop-file.numbers.items c.push.new.self.items c.loop-file.rows.items c.push-in-loop-file.new.self.items
          joined.open_group joined.row joined.full before.joined is c.in_ok-push_full.ensures
          (omega (arith, c.len.ensures, c.push_full.new.groups.ok.0)) c.in_ok-push.ensures.items c.in_ok-push-2.ensures.items;
    }
