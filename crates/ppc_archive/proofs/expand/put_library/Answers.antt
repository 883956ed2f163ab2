-- A candidate that is left is put behind the job where it is chosen.
use Rattle.std.proofs.Common.{ℕ, ◌++◌, [], ◌∷◌, length, List, ap, sym, ◌∙◌, arith}
use Rattle.std.specs.Prelude.{filter, if◌then◌else◌}
use Rattle.ppc_archive.specs.Choice.{flagged}
use Rattle.ppc_archive.specs.Expand.{named_file, named_files, named_member, is_candidate}
use Rattle.ppc_archive.specs.inside.Spots.{facts_of}
use Rattle.ppc_archive.proofs.Replacing.{candidate_first, put_one}
use Rattle.ppc_archive.proofs.expand.put_library.Goals as goal

pub loop-member-preserved-then-has_magic : goal.loop-member-preserved-then-has_magic
loop-member-preserved-then-has_magic c =
    let f = named_file c.args.library.now in
    let m = facts_of c.in-Some.member in
    let n = c.loop-member.number in
    let left = candidate_first c.loop-member.member-iterator c.next.new.self m c.in-Some.ensures.steps (sym c.has_magic.ensures
    ∙ c.if-has_magic.true) in
    let fewer = ap length left in
    let count = c.loop-member.invariant.count in
    let put = c.in_ok-put_candidate.ensures
    ∙ ap (λ (l : List ℕ). named_files c.loop-member.job.items ++
    (if flagged c.args.flags.now n then named_member l m ∷ [] else [])) c.as_str.ensures.value in
    record {
      job = put_one (flagged c.args.flags.now) (named_member f.name) n (named_files c.loop-member.job.items)
          (named_files c.put_candidate.new.job.items) _ m
          (filter is_candidate c.loop-member.member-iterator) (filter is_candidate c.next.new.self) c.loop-member.invariant.job left put;
      count = omega (arith, fewer, count);
    }
