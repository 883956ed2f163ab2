-- All are left at the start.
use Rattle.std.proofs.Common.{◌∙◌, arith}
use Rattle.ppc_archive.proofs.Headers.{first_spot, all_left}
use Rattle.ppc_archive.proofs.member_list.Members.iter.Goals as goal

pub invariant_of-result : goal.invariant_of-result
invariant_of-result c = record {
  whole = c.self.invariant.whole;
  short = c.self.invariant.short;
  spot_is = record { is = first_spot c.self.inside.bytes.now; below = omega arith };
}

pub returns : goal.returns
returns c = all_left c.self.inside.bytes.now ∙ c.self.view_is
