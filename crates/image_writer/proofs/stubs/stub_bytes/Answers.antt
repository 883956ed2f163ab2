use Rattle.std.proofs.Common.{◌≡◌, Bool, ap, ◌∙◌, arith}
use Rattle.stub_kinds.specs.declared.class.Key.{Key}
use Rattle.stub_kinds.specs.Stubs.{size_of}
use Rattle.stub_kinds.specs.laws.Stubs.{size_of-few}
use Rattle.layout_rounds.specs.FarSets.{member}
use Rattle.layout_rounds.specs.Layout.{key_at, stub_size}
use Rattle.image_writer.proofs.Patching.{sum_next}
use Rattle.image_writer.proofs.stubs.stub_bytes.Goals as goal

-- one more stub
pub loop-k-preserved : goal.loop-k-preserved
loop-k-preserved c =
    let t = c.args.settled.now.keyed in
    let far = c.args.settled.now.far in
    let k = c.loop-k.k in
    let here : c.from-total.result ≡ stub_size t (member far) k =
    c.from-total.ensures ∙ c.size.ensures ∙ ap (λ (key : Key). size_of key.class c.holds.result) c.key.ensures.key
    ∙ ap (λ (b : Bool). size_of (key_at t k).class b) c.holds.ensures in
    let next = sum_next (stub_size t (member far)) k in
    let few = (size_of-few (key_at t k).class (member far k)).1 in
    let so_far = c.loop-k.invariant in
    record { sum = omega (arith, so_far.sum, next, here); low = omega (arith, so_far.low, few, here) }
