-- push_places-requires: commons may be laid out. returns-clause-pieces: all pieces are.
use Rattle.std.proofs.Common.{◌≡◌, ℕ, List, length, ap, sym, subst, ◌∙◌, arith}
use Rattle.std.specs.List.{AllByRecursion}
use Rattle.object_set.specs.Refusals.{set_refusal}
use Rattle.toc_groups.specs.Runs.{IsFitExtent}
use Rattle.toc_groups.specs.Sections.{commons_of}
use Rattle.toc_groups.specs.inside.Laid.{AreRuns, AreAddresses}
use Rattle.toc_groups.proofs.Commons.{commons_fit}
use Rattle.toc_groups.proofs.Running.{laid_are}
use Rattle.toc_groups.proofs.pieces.lay_pieces.Goals as goal

pub push_places-requires-clause-fit : goal.push_places-requires-clause-fit
push_places-requires-clause-fit c =
    let files = c.args.res.now.files in
    let whole = ap set_refusal (sym c.set-set.ensures) ∙ c.file_count-files.ensures.whole in
    subst (AllByRecursion IsFitExtent) (sym (c.as_slice-2.ensures.value ∙ c.in_ok-rooms.ensures)) (commons_fit files whole)

pub returns-clause-pieces : goal.returns-clause-pieces
returns-clause-pieces c =
    let files = c.args.res.now.files in
    let span = c.args.laid.now.span in
    let runs : AreRuns files span c.in_ok-runs.runs =
    subst (λ (f : List (List ℕ)). AreRuns f span c.in_ok-runs.runs) c.set-set.ensures c.in_ok-runs.ensures.runs in
    let addresses : AreAddresses files span (length files) c.in_ok-addresses.addresses =
    subst (λ (f : List (List ℕ)). AreAddresses f span (length f) c.in_ok-addresses.addresses) c.set-set.ensures c.in_ok-addresses.ensures in
    let rooms : c.as_slice-2.result.now ≡ commons_of files = c.as_slice-2.ensures.value ∙ c.in_ok-rooms.ensures in
    laid_are files span c.in_ok-runs.runs c.in_ok-addresses.addresses c.push_places.new.addresses c.as_slice-2.result.now
    c.len-section_count.result c.in_ok-commons.commons runs addresses rooms c.in_ok-commons.ensures.addresses c.in_ok-commons.ensures.end
    (omega (arith, c.len-section_count.ensures, c.in_ok-addresses.addresses.pieces.ok.0))
