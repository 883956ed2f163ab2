-- push_group-requires: the group is there. loop-group-preserved: what one group more holds. returns: what all hold, and that it lies low.
use Rattle.std.proofs.Common.{◌≡◌, ◌++◌, ℕ, ap, sym, ◌∙◌, subst, arith}
use Rattle.std.specs.List.{flat_map, range_with_len}
use Rattle.toc_groups.specs.Groups.{group_count}
use Rattle.toc_groups.proofs.Reading.{named_long}
use Rattle.toc_rewrite.specs.Records.{all_records}
use Rattle.plain_run.specs.Data.{record_pointers, group_pointers, data_pointers}
use Rattle.plain_run.specs.inside.Data.{AreLow}
use Rattle.plain_run.proofs.DataPointers.{put_next, data_low}
use Rattle.plain_run.proofs.data.data_pointers.Goals as goal

pub push_group-requires-clause-group : goal.push_group-requires-clause-group
push_group-requires-clause-group c =
    omega (
      arith,
      named_long c.args.res.now.files c.args.plan.now.span c.args.plan.now c.requires.plan_is,
      c.group_count-group-end.ensures,
      c.loop-group-test.true,
    )

pub loop-group-preserved : goal.loop-group-preserved
loop-group-preserved c =
    let files = c.args.res.now.files in
    let span = c.args.plan.now.span in
    put_next (group_pointers files span) (flat_map (record_pointers files span) (all_records files)) c.loop-group.pointers.items
    c.push_group.new.pointers.items c.loop-group.group c.loop-group.invariant c.in_ok-push_group.ensures

pub returns : goal.returns
returns c =
    let files = c.args.res.now.files in
    let span = c.args.plan.now.span in
    let all : c.loop-group.group ≡ group_count files span =
    omega (
      arith,
      named_long files span c.args.plan.now c.requires.plan_is,
      c.group_count-group-end.ensures,
      c.loop-group.auto.group-end,
      c.loop-group-test.false,
    ) in
    let are : c.loop-group.pointers.items ≡ data_pointers files span =
    c.loop-group.invariant
    ∙ ap (λ (n : ℕ). flat_map (record_pointers files span) (all_records files) ++ flat_map (group_pointers files span) (range_with_len 0 n))
    all in
    record { pointers = are; low = subst AreLow (sym are) (data_low files c.args.plan.now c.requires) }
