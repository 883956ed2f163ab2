-- One chosen candidate more has what it needs; at the end all have.
use Rattle.std.proofs.Common.{◌≡◌, ℕ, List, [], ◌+◌, ◌<◌, length, ap, sym, ◌∙◌, subst, arith}
use Rattle.std.specs.Prelude.{slice_index}
use Rattle.std.proofs.lemmas.List.{get_or_default}
use Rattle.object_set.specs.Files.{file_at}
use Rattle.ppc_archive.specs.Choice.{asked_names}
use Rattle.ppc_archive.specs.inside.Givers.{Chosen, taken_all, candidate_in}
use Rattle.ppc_archive.specs.inside.Pools.{pool_of, HasFirst}
use Rattle.ppc_archive.proofs.Closing.{map_below, needed_below, among_at, first_more, is_choice}
use Rattle.ppc_archive.proofs.choice.least_choice.Goals as goal

pub index-requires : goal.index-requires
index-requires c =
    let pool = pool_of c.args.files.now c.args.entry.now in
    let first = c.loop-next.invariant.first in
    let more : c.loop-next.next < length c.loop-next.choice.order =
    (let count = c.count.ensures.count in let test = c.loop-next-test.true in omega (arith, count, test)) in
    let number = c.get-c.ensures.number in
    let below = needed_below pool c.loop-next.choice.order (slice_index c.loop-next.choice.order c.loop-next.next) first.roots.needed
    (among_at c.loop-next.choice.order c.loop-next.next more) in
    let count = c.args.files.now.candidates.ok.0 in
    omega (arith, number, below, count)

pub take_asked-requires : goal.take_asked-requires
take_asked-requires c =
    map_below (pool_of c.args.files.now c.args.entry.now) c.in_ok-providers.providers c.loop-next.choice.total
    (c.in_ok-providers.ensures c.args.entry.now) c.loop-next.invariant.total

pub loop-next-preserved : goal.loop-next-preserved
loop-next-preserved c =
    let pool = pool_of c.args.files.now c.args.entry.now in
    let k = c.loop-next.next in
    let old = c.loop-next.choice.order in
    let more : k < length old = (let count = c.count.ensures.count in let test = c.loop-next-test.true in omega (arith, count, test)) in
    let here : c.index.result.now ≡ file_at pool.candidates (slice_index old k) =
    (let number = c.get-c.ensures.number in
    let below = needed_below pool old (slice_index old k) c.loop-next.invariant.first.roots.needed (among_at old k more) in
    c.index.ensures ∙ get_or_default pool.candidates c.get-c.result c.index.result.now [] (omega (arith, number, below))
    ∙ ap (file_at pool.candidates) number) in
    let now = c.in_ok-take_asked.ensures in
    let given = candidate_in c.in_ok-providers.providers in
    let order = ap (λ (o : Chosen). o.order) now ∙ ap (λ (b : List ℕ). taken_all given old (asked_names b)) here in
    record {
      total = ap (λ (o : Chosen). o.total) now ∙ c.loop-next.invariant.total;
      first = subst (λ (l : List ℕ). HasFirst pool l (k + 1)) (sym order)
          (first_more pool c.in_ok-providers.providers old k
          (c.in_ok-providers.ensures c.args.entry.now) c.loop-next.invariant.first more);
    }

pub returns-clause-choice : goal.returns-clause-choice
returns-clause-choice c =
    let pool = pool_of c.args.files.now c.args.entry.now in
    is_choice pool c.loop-next.choice.order c.loop-next.next c.into_flags.result.items c.loop-next.invariant.first
    (let count = c.count.ensures.count in let test = c.loop-next-test.false in omega (arith, count, test)) c.into_flags.ensures.flags

pub loop-next-init : goal.loop-next-init
loop-next-init c =
    let roots = c.in_ok-choice.ensures.roots in
    record {
      total = c.in_ok-choice.ensures.total;
      first = record {
        within = omega arith;
        roots = roots;
        met =
            λ k less. absurd (omega (arith, less));
      };
    }
