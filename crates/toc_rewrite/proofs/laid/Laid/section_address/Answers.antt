-- index-requires: the file has a first section. overflow_add-place: it has few before it. returns: the place of the section.
use Rattle.std.proofs.Common.{◌≡◌, ◌<◌, ◌≤◌, ◌+◌, ◌^◌, ℕ, List, map, length, slice_index, sym, ap, ◌∙◌, subst, arith}
use Rattle.std.specs.List.{range_with_len, slice_index_or}
use Rattle.std.proofs.lemmas.List.{length-map}
use Rattle.std.proofs.lemmas.List.FromFn.{length-range_with_len}
use Rattle.object_set.specs.Walks.{section_walk, index_of}
use Rattle.toc_rewrite.specs.Laid.{LaidFiles}
use Rattle.toc_rewrite.proofs.Sections.{index_from_first, mapped_at, low_at}
use Rattle.toc_rewrite.proofs.laid.Laid.section_address.Goals as goal

file_in : (file : ℕ) (inside own : LaidFiles) → inside ≡ own → file < length own.files → file < length inside.files
file_in file inside own same within = subst (λ (l : LaidFiles). file < length l.files) (sym same) within

abbrev first_of : List (List ℕ) → ℕ → ℕ
first_of files file = index_of section_walk files file 0

inside : (files : List (List ℕ)) (items : List ℕ) (file : ℕ) → items ≡ map (first_of files) (range_with_len 0 (length files)) →
    file < length files → file < length items
inside files items file are within =
    let count = ap length are in
    omega (arith, within, count, length-map (range_with_len 0 (length files)) (first_of files), length-range_with_len 0 (length files))

pub index-requires : goal.index-requires
index-requires c =
    let within : c.args.file < length c.self.inside.firsts.items.items =
    inside c.self.inside.res.now.files c.self.inside.firsts.items.items c.args.file c.self.invariant.firsts_are.items
    (file_in c.args.file _ c.args.self.now c.self.view_is c.requires) in
    omega (arith, within, c.self.inside.firsts.items.ok.0)

pub overflow_add-place : goal.overflow_add-place
overflow_add-place c =
    let items = c.self.inside.firsts.items.items in
    let within : c.args.file < length items = inside c.self.inside.res.now.files items c.args.file c.self.invariant.firsts_are.items
    (file_in c.args.file _ c.args.self.now c.self.view_is c.requires) in
    let low : c.index.result.now ≤ 2 ^ 44 =
    low_at items c.args.file c.index.result.now (2 ^ 44) (c.self.invariant.firsts_are.low c.args.file) c.index.ensures within in
    omega (arith, low, c.from.ensures, c.ranges.section.fits)

-- the place of the section among the addresses
place_is : (files : List (List ℕ)) (items : List ℕ) (file section first from : ℕ) →
    items ≡ map (λ f. index_of section_walk files f 0) (range_with_len 0 (length files)) → file < length files →
    first ≡ slice_index_or items file first → from ≡ section → first + from ≡ index_of section_walk files file section
place_is files items file section first from are within read same =
    let this = mapped_at (λ f. index_of section_walk files f 0) (length files) file items first are within read in
    let all = index_from_first files file section in
    omega (arith, this, all, same)

pub returns-in-Some-clause-address : goal.returns-in-Some-clause-address
returns-in-Some-clause-address c =
    let files = c.self.inside.res.now.files in
    let pieces = c.self.inside.pieces.now in
    let within : c.args.file < length files = file_in c.args.file _ c.args.self.now c.self.view_is c.requires in
    let place = place_is files c.self.inside.firsts.items.items c.args.file c.args.section c.index.result.now c.from.result
    c.self.invariant.firsts_are.items within c.index.ensures c.from.ensures in
    c.in-Some.ensures.lookup.3.1 0
    ∙ ap (slice_index pieces) place
    ∙ ap (λ (l : LaidFiles). slice_index l.pieces (index_of section_walk l.files c.args.file c.args.section)) c.self.view_is

pub returns-in-None-clause-address : goal.returns-in-None-clause-address
returns-in-None-clause-address c =
    let files = c.self.inside.res.now.files in
    let pieces = c.self.inside.pieces.now in
    let within : c.args.file < length files = file_in c.args.file _ c.args.self.now c.self.view_is c.requires in
    let place = place_is files c.self.inside.firsts.items.items c.args.file c.args.section c.index.result.now c.from.result
    c.self.invariant.firsts_are.items within c.index.ensures c.from.ensures in
    c.in-None.ensures.lookup.4 (omega arith) 0
    ∙ ap (slice_index pieces) place
    ∙ ap (λ (l : LaidFiles). slice_index l.pieces (index_of section_walk l.files c.args.file c.args.section)) c.self.view_is
