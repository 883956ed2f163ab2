-- push_places-requires: groups may be laid out.
use Rattle.std.proofs.Common.{◌∙◌, sym, subst}
use Rattle.std.specs.List.{AllByRecursion}
use Rattle.toc_groups.specs.Runs.{IsFitExtent}
use Rattle.toc_groups.proofs.GroupPlaces.{rooms_fit}
use Rattle.toc_groups.proofs.pieces.group_starts.Goals as goal

pub push_places-requires-clause-fit : goal.push_places-requires-clause-fit
push_places-requires-clause-fit c =
    subst (AllByRecursion IsFitExtent) (sym (c.as_slice.ensures.value ∙ c.in_ok-rooms.ensures)) (rooms_fit c.args.groups.now)
