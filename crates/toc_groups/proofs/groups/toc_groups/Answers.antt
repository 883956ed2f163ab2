-- returns: the last group is whole too.
use Rattle.std.proofs.Common.{refl}
use Rattle.toc_groups.proofs.Grouping.{last_whole, all_joined, some_files}
use Rattle.toc_groups.proofs.groups.toc_groups.Goals as goal

pub returns : goal.returns
returns c =
    let files = c.args.set.now in
    let all = c.in_ok-laid.field-0 in
    let have = c.in_ok-laid.ensures in
    let some = some_files files c.args.span all.laid all.laid.numbers.len have.joined all.laid.numbers.ok.0 c.if-is_empty.ensures in
    let whole = last_whole files c.args.span all.last c.whole.result c.count-slots.result all.last.size have.open_group have.first
    c.count-slots.ensures refl c.whole.ensures.first c.whole.ensures.slots c.whole.ensures.size in
    all_joined files c.args.span all.laid c.whole.result
    (record { span = all.laid.span; groups = c.push.new.self; numbers = all.laid.numbers; rows = all.laid.rows }) have.joined some whole
    c.in_ok-push.ensures.items refl refl have.span_is
