-- index-requires, toc_start-requires, bounds: the file's group is there, with its start, and its slots are few. lay_section-requires: data
-- has room. loop-section: one section more. returns: all sections.
use Rattle.std.proofs.Common.{◌≡◌, ◌+◌, ◌++◌, ℕ, List, length, get_or, sym, subst, ap, ◌∙◌, arith}
use Rattle.std.proofs.lemmas.List.{append-nil}
use Rattle.std.proofs.lemmas.List.FromFn.{length-map-range_with_len}
use Rattle.elf64_records.specs.FileHeader.{e_shnum}
use Rattle.object_set.specs.Files.{file_at}
use Rattle.object_set.specs.Walks.{items_in}
use Rattle.toc_groups.specs.declared.extents.Extent.{Extent}
use Rattle.toc_groups.specs.Groups.{group_number}
use Rattle.toc_groups.specs.Sections.{section_extent}
use Rattle.toc_groups.specs.Data.{address_walk, section_address}
use Rattle.toc_groups.specs.inside.Laid.{HasRoom, AreEndsAt, ends_after, address_after}
use Rattle.toc_groups.proofs.Placing.{ends_next, address_there, has_room}
use Rattle.toc_groups.proofs.ReadPlaces.{file_number, start_read, start_is_low, group_there, whole_read, few_there, address_more}
use Rattle.toc_groups.proofs.FileEnds.{file_begins, file_ends}
use Rattle.toc_groups.proofs.pieces.push_sections.Goals as goal

pub index-requires : goal.index-requires
index-requires c =
    let laid = c.args.laid.now in
    let files = c.args.set.now in
    let long = ap (λ (l : List ℕ). length l) c.requires.groups.numbers_are
    ∙ length-map-range_with_len (group_number files laid.span) 0 (length files) in
    omega (arith, long, laid.numbers.ok.0, c.requires.file)

pub index-requires-2 : goal.index-requires-2
index-requires-2 c =
    let laid = c.args.laid.now in
    let files = c.args.set.now in
    let number = file_number files laid.span laid.numbers.items c.args.file c.index.result.now c.requires.groups.numbers_are
    c.requires.file c.index.ensures in
    omega (
      arith,
      group_there files laid.span laid c.args.file c.index.result.now c.requires.groups c.requires.file number,
      laid.groups.ok.0,
    )

pub toc_start-ends-requires : goal.toc_start-ends-requires
toc_start-ends-requires c =
    let laid = c.args.laid.now in
    let files = c.args.set.now in
    let number = file_number files laid.span laid.numbers.items c.args.file c.index.result.now c.requires.groups.numbers_are
    c.requires.file c.index.ensures in
    few_there files laid.span c.args.file c.index-2.result.now c.requires.whole c.requires.few c.requires.file
    (whole_read files laid.span laid c.args.file c.index.result.now c.index-2.result.now c.requires.groups c.requires.file number
    c.index-2.ensures)

pub bounds-starts-number : goal.bounds-starts-number
bounds-starts-number c =
    let laid = c.args.laid.now in
    let files = c.args.set.now in
    let number = file_number files laid.span laid.numbers.items c.args.file c.index.result.now c.requires.groups.numbers_are
    c.requires.file c.index.ensures in
    (start_read files laid.span c.args.starts.now c.args.file c.index.result.now c.requires.starts c.requires.file number).0

pub lay_section-requires-clause-start : goal.lay_section-requires-clause-start
lay_section-requires-clause-start c =
    let laid = c.args.laid.now in
    let files = c.args.set.now in
    let number = file_number files laid.span laid.numbers.items c.args.file c.index.result.now c.requires.groups.numbers_are
    c.requires.file c.index.ensures in
    start_is_low files laid.span c.args.starts.now c.args.file c.index.result.now c.requires.starts c.requires.file number
    c.requires.fits.groups

pub lay_section-requires-clause-room : goal.lay_section-requires-clause-room
lay_section-requires-clause-room c =
    let files = c.args.set.now in
    let i = c.loop-section.section in
    let count = c.section_count-section-end.ensures.count ∙ ap e_shnum c.view.ensures in
    subst (λ (e : Extent). HasRoom e c.loop-section.ends c.sort_of-sort.result) (sym c.section_extent-room.ensures)
    (has_room files c.args.laid.now.span c.args.file i c.loop-section.ends c.sort_of-sort.result c.requires.whole c.requires.file
    (omega (arith, count, c.loop-section-test.true)) c.requires.fits c.loop-section.invariant.ends (sym c.sort_of-sort.ensures))

pub loop-section-init : goal.loop-section-init
loop-section-init c =
    let laid = c.args.laid.now in
    let files = c.args.set.now in
    let number = file_number files laid.span laid.numbers.items c.args.file c.index.result.now c.requires.groups.numbers_are
    c.requires.file c.index.ensures in
    let ends = c.args.ends.now in
    record {
      pieces = sym (append-nil c.args.pieces.now.items);
      ends = subst (λ (t : ℕ). AreEndsAt files laid.span c.args.file 0
          (record { read_only = ends.read_only; toc = t; writable = ends.writable; zeroed = ends.zeroed }))
          (sym c.toc_start-ends.ensures)
          (file_begins files laid.span c.args.file ends c.index-2.result.now c.requires.file c.requires.ends
          (whole_read files laid.span laid c.args.file c.index.result.now c.index-2.result.now c.requires.groups c.requires.file number
          c.index-2.ensures));
    }

pub loop-section-preserved : goal.loop-section-preserved
loop-section-preserved c =
    let laid = c.args.laid.now in
    let files = c.args.set.now in
    let file = c.args.file in
    let i = c.loop-section.section in
    let piece = section_extent (file_at files file) i in
    let before = c.loop-section.invariant in
    let number = file_number files laid.span laid.numbers.items file c.index.result.now c.requires.groups.numbers_are
    c.requires.file c.index.ensures in
    let start = (start_read files laid.span c.args.starts.now file c.index.result.now c.requires.starts c.requires.file number).1 in
    let sort = c.sort_of-sort.result in
    let address : c.lay_section.result ≡ section_address files laid.span file (file_at files file) i =
    c.lay_section.ensures.address
    ∙ ap (λ (e : Extent). address_after e (get_or c.args.starts.now c.index.result.now 0) c.loop-section.ends sort)
    c.section_extent-room.ensures
    ∙ address_there files laid.span file i (get_or c.args.starts.now c.index.result.now 0) c.loop-section.ends sort before.ends
    (sym c.sort_of-sort.ensures) start in
    let ends : c.lay_section.new.ends ≡ ends_after piece c.loop-section.ends sort =
    c.lay_section.ensures.ends ∙ ap (λ (e : Extent). ends_after e c.loop-section.ends sort) c.section_extent-room.ensures in
    record {
      pieces = address_more files laid.span file i c.lay_section.result c.args.pieces.now.items c.loop-section.pieces.items
          c.push.new.self.items before.pieces c.in_ok-push.ensures.items address;
      ends = subst (AreEndsAt files laid.span file (i + 1)) (sym ends)
          (ends_next files laid.span file i c.loop-section.ends sort before.ends (sym c.sort_of-sort.ensures));
    }

pub returns-clause-pieces : goal.returns-clause-pieces
returns-clause-pieces c =
    let b = file_at c.args.set.now c.args.file in
    let count = c.section_count-section-end.ensures.count ∙ ap e_shnum c.view.ensures in
    let all : c.loop-section.section ≡ e_shnum b =
    omega (arith, count, c.loop-section.auto.section-end, c.loop-section-test.false) in
    c.loop-section.invariant.pieces
    ∙ ap (λ (n : ℕ). c.args.pieces.now.items ++ items_in (address_walk c.args.set.now c.args.laid.now.span) c.args.file b n) all

pub returns-clause-ends : goal.returns-clause-ends
returns-clause-ends c =
    let b = file_at c.args.set.now c.args.file in
    let count = c.section_count-section-end.ensures.count ∙ ap e_shnum c.view.ensures in
    let all : c.loop-section.section ≡ e_shnum b =
    omega (arith, count, c.loop-section.auto.section-end, c.loop-section-test.false) in
    file_ends c.args.set.now c.args.laid.now.span c.args.file c.loop-section.ends
    (subst (λ (n : ℕ). AreEndsAt c.args.set.now c.args.laid.now.span c.args.file n c.loop-section.ends) all c.loop-section.invariant.ends)
