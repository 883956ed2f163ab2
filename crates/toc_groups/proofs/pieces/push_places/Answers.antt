-- place-requires-clause-fit: each piece is fit. returns-in_err-place: a piece that passes the end of data. loop-k-preserved: one piece
-- more.
use Rattle.std.proofs.Common.{◌<◌, length, get_or, inr, arith}
use Rattle.toc_groups.specs.declared.extents.Extent.{Extent}
use Rattle.std.proofs.lemmas.Result.{err_from_is_err_and}
use Rattle.toc_groups.specs.Runs.{behind, run_place}
use Rattle.toc_groups.proofs.Laying.{fit_at, piece_past, piece_placed, piece_end, places_more, within_limit}
use Rattle.toc_groups.proofs.pieces.push_places.Goals as goal

pub place-requires-clause-fit : goal.place-requires-clause-fit
place-requires-clause-fit c =
    fit_at c.args.pieces.now c.loop-k.k (record { size = 0; align = 0 }) c.requires.fit (omega (arith, c.loop-k-test.true))

pub returns-in_err-place-clause-refusal : goal.returns-in_err-place-clause-refusal
returns-in_err-place-clause-refusal c =
    let p = err_from_is_err_and c.from_residual.result c.from_residual.ensures.1 in
    rw (p.1, p.2) (inr (piece_past c.args.start c.args.pieces.now c.loop-k.k c.loop-k.end (record { size = 0; align = 0 })
    c.in_err-place.field-0.0 (omega (arith, c.loop-k-test.true)) c.requires.fit c.loop-k.invariant.end c.in_err-place.ensures.refusal))

pub loop-k-preserved : goal.loop-k-preserved
loop-k-preserved c =
    let pieces = c.args.pieces.now in
    let k = c.loop-k.k in
    let d : Extent = record { size = 0; align = 0 } in
    let within : k < length pieces = omega (arith, c.loop-k-test.true) in
    let end = c.in_ok-place.ensures.end in
    let low = within_limit (behind c.loop-k.end (get_or pieces k d)) c.in_ok-place.ensures.refusal in
    record {
      low = omega (arith, end, low);
      end = piece_end c.args.start pieces k c.loop-k.end c.place.new.end d within c.loop-k.invariant.end end;
      addresses = places_more (run_place c.args.start pieces) k c.in_ok-place.field-0 c.args.addresses.now.items
          c.loop-k.addresses.items c.push.new.self.items c.loop-k.invariant.addresses c.in_ok-push.ensures.items
          (piece_placed c.args.start pieces k c.loop-k.end c.in_ok-place.field-0 d within c.loop-k.invariant.end
          c.in_ok-place.ensures.address);
    }
