-- bounds-spots-s: the spot before is there. next_spot-requires: groups are no more than sections, offsets are small, and
-- sections are sound.
-- returns-else-s-eq0: the spot is the next one.
use Rattle.std.proofs.Common.{ℕ, ◌≡◌, ◌-◌, ◌<◌, ◌∙◌, ap, sym, subst, arith, List, length, map, get_or}
use Rattle.std.specs.List.{range_with_len}
use Rattle.std.proofs.lemmas.List.{get_or_default}
use Rattle.std.proofs.lemmas.List.FromFn.{get_or-map-range_with_len, length-map-range_with_len}
use Rattle.layout_rounds.specs.declared.shape.ShapeSection.{ShapeSection}
use Rattle.layout_rounds.specs.declared.grouping.Spot.{Spot}
use Rattle.layout_rounds.specs.Shapes.{spot_at, no_section, IsSoundSection}
use Rattle.layout_rounds.proofs.Spots.{group_most, offset_most, spot_next}
use Rattle.layout_rounds.proofs.grouping.spot_behind.Goals as goal

-- the spot before
spot_before : (sections : List ShapeSection) (reach : ℕ) (spots : List Spot) (s : ℕ) (d : Spot) →
    spots ≡ map (spot_at sections reach) (range_with_len 0 s) →
    0 < s →
    get_or spots (s - 1) d ≡ spot_at sections reach (s - 1)
spot_before sections reach spots s d are some =
    ap (λ (xs : List Spot). get_or xs (s - 1) d) are
    ∙ get_or-map-range_with_len (spot_at sections reach) 0 s (s - 1) (s - 1) d (omega (arith, some)) (omega arith)

pub bounds-spots-s : goal.bounds-spots-s
bounds-spots-s c =
    let long : length c.args.spots.now ≡ c.args.s = ap (λ (xs : List Spot). length xs) c.requires.spots ∙
    length-map-range_with_len (spot_at c.args.sections.now c.args.reach) 0 c.args.s in
    omega (arith, long, c.if-s-eq0.false)

pub next_spot-requires : goal.next_spot-requires
next_spot-requires c =
    let sections = c.args.sections.now in
    let s = c.args.s in
    let within : s - 1 < length sections = omega (arith, c.requires.within) in
    let before = spot_before sections c.args.reach c.args.spots.now s (record { group = 0; offset = 0 })
    c.requires.spots (omega (arith, c.if-s-eq0.false)) in
    let size = ap (λ (x : ShapeSection). x.size)
    (get_or_default sections (s - 1) (record { size = 0; align = 0; toc = 0 }) no_section within) in
    record {
      group =
          let group = ap (λ (x : Spot). x.group) before in
          let most = group_most sections c.args.reach c.requires.sound (s - 1) within in
          omega (arith, group, most, c.requires.within, c.requires.sound.few);
      room =
          let offset = ap (λ (x : Spot). x.offset) before in
          let most = offset_most sections c.args.reach c.requires.sound (s - 1) within in
          omega (arith, offset, most, size, (c.requires.sound.each (s - 1) within).size, within, c.requires.sound.few);
      sound = subst IsSoundSection (sym
          (get_or_default sections s (record { size = 0; align = 0; toc = 0 }) no_section c.requires.within))
          (c.requires.sound.each s c.requires.within);
    }

pub returns-else-s-eq0 : goal.returns-else-s-eq0
returns-else-s-eq0 c =
    let sections = c.args.sections.now in
    let s = c.args.s in
    let some : 0 < s = omega (arith, c.if-s-eq0.false) in
    c.next_spot.ensures
    ∙ spot_next sections c.args.reach s _ _ _ some
    (spot_before sections c.args.reach c.args.spots.now s (record { group = 0; offset = 0 }) c.requires.spots some)
    (get_or_default sections (s - 1) (record { size = 0; align = 0; toc = 0 }) no_section
    (omega (arith, c.requires.within)))
    (get_or_default sections s (record { size = 0; align = 0; toc = 0 }) no_section c.requires.within)
