-- What the entry and one object more need.
use Rattle.std.proofs.Common.{◌≡◌, ℕ, List, [], ◌+◌, ◌<◌, length, get_or, ap, sym, ◌∙◌, subst, arith}
use Rattle.std.proofs.lemmas.List.{get_or_default}
use Rattle.object_set.specs.Files.{file_at}
use Rattle.ppc_archive.specs.Choice.{asked_names}
use Rattle.ppc_archive.specs.inside.Givers.{Chosen, taken, taken_all, candidate_in}
use Rattle.ppc_archive.specs.inside.Pools.{pool_of, HasRootsBelow}
use Rattle.ppc_archive.proofs.Closing.{map_below, roots_first, roots_more}
use Rattle.ppc_archive.proofs.choice.roots.Goals as goal

pub take_name-requires : goal.take_name-requires
take_name-requires c =
    let pool = pool_of c.args.files.now c.args.entry.now in
    let total = ap (λ (o : Chosen). o.total) c.in_ok-choice.ensures ∙ c.len.ensures ∙ c.args.files.now.candidates.ok.0 in
    map_below pool c.args.providers.now c.in_ok-choice.choice.total c.requires total

pub take_asked-requires : goal.take_asked-requires
take_asked-requires c =
    map_below (pool_of c.args.files.now c.args.entry.now) c.args.providers.now c.loop-object.choice.total c.requires
    c.loop-object.invariant.total

pub loop-object-init : goal.loop-object-init
loop-object-init c =
    let pool = pool_of c.args.files.now c.args.entry.now in
    let total = ap (λ (o : Chosen). o.total) c.in_ok-choice.ensures ∙ c.len.ensures ∙ c.args.files.now.candidates.ok.0 in
    let empty = ap (λ (o : Chosen). o.order) c.in_ok-choice.ensures in
    let now = c.in_ok-take_name.ensures in
    let order = ap (λ (o : Chosen). o.order) now ∙ ap (λ (l : List ℕ). taken l
    (candidate_in c.args.providers.now c.args.entry.now)) empty in
    record {
      total = ap (λ (o : Chosen). o.total) now ∙ total;
      roots = subst (λ (l : List ℕ). HasRootsBelow pool l 0) (sym order) (roots_first pool c.args.providers.now c.requires);
    }

pub loop-object-preserved : goal.loop-object-preserved
loop-object-preserved c =
    let pool = pool_of c.args.files.now c.args.entry.now in
    let k = c.loop-object.object-index in
    let objects = c.args.files.now.objects.items in
    let items = c.deref-object-items.ensures.value in
    let count = ap length items in
    let test = c.loop-object-test.true in
    let within : k < length objects = omega (arith, count, test) in
    let here : c.object-item.result ≡ file_at objects k =
    c.object-item.is ∙ ap (λ (l : List (List ℕ)). get_or l k c.object-item.result) items
    ∙ get_or_default objects k c.object-item.result [] within in
    let now = c.in_ok-take_asked.ensures in
    let given = candidate_in c.args.providers.now in
    let order = ap (λ (o : Chosen). o.order) now
    ∙ ap (λ (b : List ℕ). taken_all given c.loop-object.choice.order (asked_names b)) here in
    record {
      total = ap (λ (o : Chosen). o.total) now ∙ c.loop-object.invariant.total;
      roots = subst (λ (l : List ℕ). HasRootsBelow pool l (k + 1)) (sym order)
          (roots_more pool c.args.providers.now c.loop-object.choice.order k c.requires within c.loop-object.invariant.roots);
    }
