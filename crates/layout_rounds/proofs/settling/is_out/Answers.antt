-- key-requires and holds-requires: the key of a call is there. section_at-requires: so is its section. overflow_add-at and
-- reaches-requires: the address of a call, and that of a stub, is small. returns: they are those of the layout.
use Rattle.std.proofs.Common.{◌∙◌, ap, arith, not, Bool}
use Rattle.std.proofs.lemmas.List.{get_or_read}
use Rattle.layout_rounds.specs.declared.shape.ShapeSite.{ShapeSite}
use Rattle.layout_rounds.specs.FarSets.{member}
use Rattle.layout_rounds.specs.Shapes.{no_site}
use Rattle.layout_rounds.proofs.StubsOut.{key_in, section_in, address_is, address_low, stub_is, stub_low, size_is, out_is}
use Rattle.layout_rounds.proofs.settling.is_out.Goals as goal

pub key-requires : goal.key-requires
key-requires c =
    let s = c.args.settled.now in
    let lt = key_in c.args.shape.now c.args.span s.keyed s.far s.places c.requires.sound c.requires.layout c.args.i
    c.requires.call in
    omega (arith, c.key_of-k.ensures, lt)

pub holds-requires : goal.holds-requires
holds-requires c =
    let s = c.args.settled.now in
    let lt = key_in c.args.shape.now c.args.span s.keyed s.far s.places c.requires.sound c.requires.layout c.args.i
    c.requires.call in
    omega (arith, c.key_of-k.ensures, lt, c.requires.layout.far_count)

pub section_at-requires : goal.section_at-requires
section_at-requires c =
    let s = c.args.settled.now in
    let site = get_or_read c.args.shape.now.sites.items c.args.i c.index-site.result.now c.requires.call
    c.index-site.ensures no_site in
    let section = ap (λ (x : ShapeSite). x.section) site in
    let lt = section_in c.args.shape.now c.args.span s.keyed s.far s.places c.requires.sound c.requires.layout c.args.i
    c.requires.call in
    omega (arith, section, lt, c.requires.layout.places_are.section_count_is)

pub overflow_add-at : goal.overflow_add-at
overflow_add-at c =
    let s = c.args.settled.now in
    let site = get_or_read c.args.shape.now.sites.items c.args.i c.index-site.result.now c.requires.call c.index-site.ensures no_site in
    let low = address_low c.args.shape.now c.args.span s.keyed s.far s.places c.requires.sound c.requires.layout c.args.i
    c.requires.call c.index-site.result.now c.section_at.result site c.section_at.ensures in
    omega (arith, low)

pub reaches-requires-clause-at : goal.reaches-requires-clause-at
reaches-requires-clause-at c =
    let s = c.args.settled.now in
    let site = get_or_read c.args.shape.now.sites.items c.args.i c.index-site.result.now c.requires.call c.index-site.ensures no_site in
    address_low c.args.shape.now c.args.span s.keyed s.far s.places c.requires.sound c.requires.layout c.args.i c.requires.call
    c.index-site.result.now c.section_at.result site c.section_at.ensures

pub reaches-requires-clause-to : goal.reaches-requires-clause-to
reaches-requires-clause-to c =
    let s = c.args.settled.now in
    let to = stub_is c.args.shape.now c.args.span s.keyed s.far s.places c.requires.sound c.requires.layout c.args.i
    c.requires.call c.key_of-k.result c.stub_at.result c.key_of-k.ensures c.stub_at.ensures in
    let small = stub_low c.args.shape.now c.args.span s.keyed s.far s.places c.requires.sound c.requires.layout c.args.i
    c.requires.call in
    omega (arith, to, small)

pub returns : goal.returns
returns c =
    let shape = c.args.shape.now in
    let s = c.args.settled.now in
    let span = c.args.span in
    let i = c.args.i in
    let site = get_or_read shape.sites.items i c.index-site.result.now c.requires.call c.index-site.ensures no_site in
    let at = address_is shape span s.keyed s.far s.places c.requires.sound c.requires.layout i c.requires.call
    c.index-site.result.now c.section_at.result site c.section_at.ensures in
    let to = stub_is shape span s.keyed s.far s.places c.requires.sound c.requires.layout i c.requires.call
    c.key_of-k.result c.stub_at.result c.key_of-k.ensures c.stub_at.ensures in
    let size = size_is s.keyed shape.sites.items (member s.far) span i c.size.result c.key_of-k.result c.key.result
    c.holds.result c.size.ensures c.key.ensures.key c.holds.ensures c.key_of-k.ensures in
    ap (λ (b : Bool). not b) c.reaches.ensures
    ∙ out_is s.keyed shape.sites.items (member s.far) span i c.size.result _ c.stub_at.result size c.if-size-eq0.false
    at to
