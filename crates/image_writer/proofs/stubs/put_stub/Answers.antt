use Rattle.std.proofs.Common.{◌-◌, ℕ, slice_index, ap, ◌∙◌}
use Rattle.stub_kinds.specs.declared.class.Key.{Key}
use Rattle.stub_kinds.specs.Stubs.{size_of}
use Rattle.layout_rounds.specs.FarSets.{member}
use Rattle.layout_rounds.specs.Layout.{key_at, stub_size}
use Rattle.image_writer.specs.Text.{eight_words}
use Rattle.image_writer.proofs.Patching.{same_words}
use Rattle.image_writer.proofs.stubs.put_stub.Goals as goal

-- its words, at its address
pub returns-clause-put : goal.returns-clause-put
returns-clause-put c =
    let settled = c.args.settled.now in
    let far = member settled.far in
    let start = ap (λ (n : ℕ). c.stub_at.result - n) c.text_start.ensures
    ∙ ap (λ (n : ℕ). n - c.args.plan.now.text_start) c.stub_at.ensures in
    let size = c.size-size.ensures ∙ ap (λ (key : Key). size_of key.class c.holds.result) c.key.ensures.key
    ∙ ap (size_of (key_at settled.keyed c.args.k).class) c.holds.ensures in
    c.put_words.ensures.put
    ∙ same_words c.args.text.now (c.stub_at.result - c.text_start.result)
    (slice_index settled.places.stubs c.args.k - c.args.plan.now.text_start) c.size-size.result
    (stub_size settled.keyed far c.args.k) c.key_words-words.result
    (eight_words c.args.res.now.files c.args.plan.now.bases settled.keyed far settled.places c.args.k) start size
    c.key_words-words.ensures
