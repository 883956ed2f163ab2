use Rattle.std.proofs.Common.{ℕ, ◌≡◌, ap, sym, ◌∙◌, subst, arith}
use Rattle.layout_rounds.specs.FarSets.{count, member}
use Rattle.image_writer.specs.LaidText.{layout_of}
use Rattle.image_writer.specs.Segments.{TakeText, image_segments}
use Rattle.image_writer.specs.Rewriting.{rewriting_of}
use Rattle.link_engine.specs.inside.Writing.{address_of}
use Rattle.link_engine.proofs.Entered.{entered, entry_in}
use Rattle.link_engine.proofs.LaidOut.{calls_count, folds_count, gives}
use Rattle.link_engine.proofs.LoadedImages.{written}
use Rattle.link_engine.proofs.engine.write_image.Goals as goal

-- the entry's section is one of text
pub entry_address-entry-requires-clause-section : goal.entry_address-entry-requires-clause-section
entry_address-entry-requires-clause-section c =
    let files = c.args.res.now.files in
    let settled = c.args.job.settled in
    (entry_in files c.args.job.plan settled.keyed settled.far settled.places c.args.res.now.entry c.requires.resolved.whole
    c.text_is_placed.ensures.placed (entered c.args.res.now c.args.options.now c.requires.resolved)).section_in

-- its address is low
pub entry_address-entry-requires-clause-low : goal.entry_address-entry-requires-clause-low
entry_address-entry-requires-clause-low c =
    let files = c.args.res.now.files in
    let settled = c.args.job.settled in
    let placed = c.text_is_placed.ensures.placed in
    let inside = entry_in files c.args.job.plan settled.keyed settled.far settled.places c.args.res.now.entry c.requires.resolved.whole
    placed (entered c.args.res.now c.args.options.now c.requires.resolved) in
    omega (arith, inside.below, placed.limit, placed.start_low)

-- text stands behind the segments of data
pub segments-requires-clause-parts : goal.segments-requires-clause-parts
segments-requires-clause-parts c =
    let job = c.requires.whole in
    subst (λ (n : ℕ). TakeText n c.args.job.loaded.data.items) (sym job.stands.plan_is.text_start)
    (c.data_segments_are_placed.ensures c.args.res.now.files c.args.job.plan.span c.args.job.settled.places.sections
    c.args.job.loaded.data.items c.requires.resolved.whole job.stands.data_fits job.data_is).image

-- and has bytes
pub segments-requires-clause-some : goal.segments-requires-clause-some
segments-requires-clause-some c =
    let files = c.args.res.now.files in
    let settled = c.args.job.settled in
    let inside = entry_in files c.args.job.plan settled.keyed settled.far settled.places c.args.res.now.entry c.requires.resolved.whole
    c.text_is_placed.ensures.placed (entered c.args.res.now c.args.options.now c.requires.resolved) in
    omega (arith, inside.from, inside.below, c.requires.whole.text_size)

-- the image, which loads as what was written, and what was counted
pub returns : goal.returns
returns c =
    let files = c.args.res.now.files in
    let options = c.args.options.now in
    let job = c.args.job in
    let is = c.requires.whole in
    let plan = job.plan in
    let settled = job.settled in
    let whole = c.requires.resolved.whole in
    let text = layout_of settled.keyed settled.far settled.places in
    let placed = c.text_is_placed.ensures.placed in
    let inside = entry_in files plan settled.keyed settled.far settled.places c.args.res.now.entry whole placed
    (entered c.args.res.now options c.requires.resolved) in
    let list = c.in_ok-list.list in
    let same : list.list.items ≡ image_segments job.loaded.data.items plan.text_start job.loaded.text.items = c.in_ok-list.ensures.list in
    let there = written files plan job.calls (address_of settled.places.sections c.args.res.now.entry) list.entry text
    (rewriting_of files plan.span job.pairs) job.loaded.data.items list.list.items job.loaded.text.items
    c.in_ok-write_exec.field-0.items c.written_loads.ensures
    (c.data_segments_are_placed.ensures files plan.span settled.places.sections job.loaded.data.items whole is.stands.data_fits is.data_is)
    is.data_is is.text_is same c.in_ok-list.ensures.image (c.in_ok-list.ensures.entry ∙ c.entry_address-entry.ensures)
    (omega (arith, inside.below, placed.limit, placed.start_low)) c.in_ok-write_exec.ensures in
    let image = gives files options plan job.calls text job.pairs is.laid c.args.res.now.entry c.in_ok-write_exec.field-0.items
    c.requires.resolved.entry is.fits there in
    record {
      linked = record {
        text = text;
        image = image.is;
        loads = image.loads;
        sites = c.from.ensures ∙ c.count.ensures ∙ calls_count files options plan job.calls text job.pairs is.laid;
        far = c.count-2.ensures ∙ ap (count (member settled.far)) is.stands.far_count;
        stub_bytes = c.stub_bytes.ensures;
        folds = c.count-3.ensures ∙ folds_count files options plan job.calls text job.pairs is.laid job.folds is.folds_are;
      };
    }
