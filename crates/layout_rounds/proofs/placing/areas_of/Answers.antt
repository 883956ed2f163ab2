-- loop-k-preserved: one more stub.
use Rattle.std.proofs.Common.{ℕ, ◌≡◌, ◌∙◌, ap, arith, slice_index}
use Rattle.std.proofs.lemmas.List.{get_or_read}
use Rattle.stub_kinds.specs.declared.class.Key.{Key}
use Rattle.layout_rounds.specs.FarSets.{member}
use Rattle.layout_rounds.specs.Layout.{key_at, stub_bytes}
use Rattle.layout_rounds.proofs.Placements.{one_more, bytes_more}
use Rattle.layout_rounds.proofs.placing.areas_of.Goals as goal

pub loop-k-preserved : goal.loop-k-preserved
loop-k-preserved c =
    let t = c.args.keyed.now in
    let so_far = c.loop-k.invariant in
    let bytes = c.loop-k.bytes.items in
    let g = c.key-g.result.group in
    let group : g ≡ (key_at t c.loop-k.k).group = ap (λ (x : Key). x.group) c.key-g.ensures.key in
    let read : c.index-offset.result.now ≡ slice_index bytes g =
    get_or_read bytes g c.index-offset.result.now (omega arith) c.index-offset.ensures 0 in
    record {
      offsets_are = one_more _ c.loop-k.k c.loop-k.offsets.items c.push.new.self.items c.index-offset.result.now
          so_far.offsets_are c.in_ok-push.ensures.items
          (read ∙ so_far.bytes_are.each g c.key-g.ensures.within
          ∙ ap (λ (i : ℕ). stub_bytes t (member c.args.far.now) i c.loop-k.k) group);
      bytes_are = bytes_more t (member c.args.far.now) c.loop-k.k g _ bytes so_far.bytes_are group
          (omega (arith, read, c.stub_size.ensures));
    }
