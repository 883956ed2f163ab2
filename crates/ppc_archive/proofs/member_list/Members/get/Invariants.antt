use Rattle.std.proofs.Common.{◌≡◌, drop}
use Rattle.ppc_archive.proofs.member_list.Members.get.Given as goal

-- so many members are passed
abbrev pub invariant-loop : goal.invariant-loop
invariant-loop l = l.left ≡ drop l.counter l.self
