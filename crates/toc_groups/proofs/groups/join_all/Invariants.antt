use Rattle.std.proofs.Common.{◌≡◌}
use Rattle.toc_groups.specs.Groups.{group_after}
use Rattle.toc_groups.specs.inside.Open.{IsOpen, AreJoined}
use Rattle.toc_groups.proofs.groups.join_all.Given as goal

-- the first files have joined
abbrev pub invariant-loop-file : goal.invariant-loop-file
invariant-loop-file l = record {
  open_group : IsOpen l.set l.file l.last;
  files : l.last.slots.files ≡ l.set;
  first : l.last.first ≡ (group_after l.set l.span l.file).first;
  joined : AreJoined l.set l.span l.file l.groups.items l.numbers.items l.rows.items;
}
