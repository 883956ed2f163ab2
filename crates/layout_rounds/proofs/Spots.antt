-- Where sections stand in stub groups.
use Rattle.std.proofs.Common.{ℕ, zero, suc, ◌≡◌, ◌≢◌, ◌<◌, ◌≤◌, ◌+◌, ◌-◌, ◌*◌, ◌⊎◌, inl, inr, Bool, true, false, List, length, ap, sym}
use Rattle.std.proofs.Common.{◌∙◌, refl, arith, ◌&&◌, nat_le, if◌then◌else◌, ◌==◌}
use Rattle.std.proofs.lemmas.Bool.Decides.{nat_tests}
use Rattle.layout_rounds.specs.declared.shape.ShapeSection.{ShapeSection}
use Rattle.layout_rounds.specs.declared.grouping.Spot.{Spot}
use Rattle.layout_rounds.specs.Shapes.{aligned, next_spot, spot_at, section_of, AreSound, IsSoundSection}
use Rattle.layout_rounds.proofs.Aligned.{power_pos, aligned_most, aligned_least}
use Rattle.layout_rounds.proofs.Cases.{below_or_same, upto_or_next}

-- a section that joins the group of the one before
pub spot_joins : (reach : ℕ) (last : Spot) (before section : ShapeSection) (at : ℕ) →
    at ≡ aligned (last.offset + before.size) section.align →
    before.toc ≡ section.toc →
    at + section.size ≤ reach →
    record { group = last.group; offset = at } ≡ next_spot reach last before section
spot_joins reach last before section at is same within =
    let there = aligned (last.offset + before.size) section.align in
    let test : ((before.toc == section.toc) && nat_le (there + section.size) reach) ≡ true =
    grind (arith, nat_tests, same, is, within) in
    ap (λ (x : ℕ). record { group = last.group; offset = x }) is
    ∙ ap (λ (b : Bool). (if b then record { group = last.group; offset = there }
    else record { group = last.group + 1; offset = 0 })) (sym test)

-- and one that begins the next
pub spot_begins : (reach : ℕ) (last : Spot) (before section : ShapeSection) (at : ℕ) →
    at ≡ aligned (last.offset + before.size) section.align →
    (before.toc ≢ section.toc) ⊎ (reach < at + section.size) →
    record { group = last.group + 1; offset = 0 } ≡ next_spot reach last before section
spot_begins reach last before section at is apart =
    let there = aligned (last.offset + before.size) section.align in
    let test : ((before.toc == section.toc) && nat_le (there + section.size) reach) ≡ false =
    grind (arith, nat_tests, is, apart) in
    ap (λ (b : Bool). (if b then record { group = last.group; offset = there }
    else record { group = last.group + 1; offset = 0 })) (sym test)

pub one_of : (b : Bool) (x y : Spot) → ((if b then x else y) ≡ x) ⊎ ((if b then x else y) ≡ y)
one_of true x y = inl refl
one_of false x y = inr refl

-- a section stands in the group of the one before, less than an alignment behind it
pub record Joins (last : Spot) (before : ShapeSection) (next : Spot) : Type 0 where
  pub group : next.group ≡ last.group
  pub offset : next.offset < last.offset + before.size + 0x10000

-- or at the start of the next
pub record Begins (last next : Spot) : Type 0 where
  pub group : next.group ≡ last.group + 1
  pub offset : next.offset ≡ 0

pub next_either : (reach : ℕ) (last : Spot) (before section : ShapeSection) →
    IsSoundSection section →
    Joins last before (next_spot reach last before section) ⊎ Begins last (next_spot reach last before section)
next_either reach last before section sound =
    let at = aligned (last.offset + before.size) section.align in
    elim (one_of ((before.toc == section.toc) && nat_le (at + section.size) reach)
    (record { group = last.group; offset = at }) (record { group = last.group + 1; offset = 0 })) [
      | inl e ↦
          let o : (next_spot reach last before section).offset ≡ at = ap (λ (s : Spot). s.offset) e in
          let most = aligned_most (last.offset + before.size) section.align in
          inl (record {
            group = ap (λ (s : Spot). s.group) e;
            offset = omega (arith, o, most, sound.most, sound.least);
          })
      | inr e ↦ inr (record {
        group = ap (λ (s : Spot). s.group) e;
        offset = ap (λ (s : Spot). s.offset) e;
      })
    ]

-- in one group a section doesn't begin before the end of the one before it
next_behind : (reach : ℕ) (last : Spot) (before section : ShapeSection) →
    IsSoundSection section →
    (next_spot reach last before section).group ≡ last.group →
    last.offset + before.size ≤ (next_spot reach last before section).offset
next_behind reach last before section sound same =
    let at = aligned (last.offset + before.size) section.align in
    elim (one_of ((before.toc == section.toc) && nat_le (at + section.size) reach)
    (record { group = last.group; offset = at }) (record { group = last.group + 1; offset = 0 })) [
      | inl e ↦
          let o : (next_spot reach last before section).offset ≡ at = ap (λ (s : Spot). s.offset) e in
          let least = aligned_least (last.offset + before.size) section.align (power_pos section.align sound.power) in
          omega (arith, o, least)
      | inr e ↦
          let g : (next_spot reach last before section).group ≡ last.group + 1 = ap (λ (s : Spot). s.group) e in
          absurd (omega (arith, g, same))
    ]

module _ (sections : List ShapeSection) (reach : ℕ) (sound : AreSound sections) where
  step : (s : ℕ) → suc s < length sections →
      Joins (spot_at sections reach s) (section_of sections s) (spot_at sections reach (suc s))
      ⊎ Begins (spot_at sections reach s) (spot_at sections reach (suc s))
  step s lt = next_either reach (spot_at sections reach s) (section_of sections s) (section_of sections (suc s))
      (sound.each (suc s) lt)

  -- there are no more groups than sections
  pub group_most : (s : ℕ) → s < length sections → (spot_at sections reach s).group ≤ s
  group_most zero lt = omega arith
  group_most (suc s) lt = elim (step s lt) [
    | inl joins ↦ omega (arith, joins.group, group_most s (omega (arith, lt)))
    | inr begins ↦ omega (arith, begins.group, group_most s (omega (arith, lt)))
  ]

  -- a section's offset is small
  pub offset_most : (s : ℕ) → s < length sections → (spot_at sections reach s).offset ≤ s * 0x100010000
  offset_most zero lt = omega arith
  offset_most (suc s) lt = elim (step s lt) [
    | inl joins ↦ omega (
      arith,
      joins.offset,
      offset_most s (omega (arith, lt)),
      (sound.each s (omega (arith, lt))).size,
    )
    | inr begins ↦ omega (arith, begins.offset)
  ]

  -- groups rise
  pub group_rises : (s r : ℕ) →
      s ≤ r →
      r < length sections →
      (spot_at sections reach s).group ≤ (spot_at sections reach r).group
  group_rises s zero le lt = let e : s ≡ 0 = omega (arith, le) in rw e (omega arith)
  group_rises s (suc r) le lt = elim (upto_or_next s r le) [
    | inl below ↦ elim (step r lt) [
      | inl joins ↦ omega (arith, joins.group, group_rises s r below (omega (arith, lt)))
      | inr begins ↦ omega (arith, begins.group, group_rises s r below (omega (arith, lt)))
    ]
    | inr same ↦ rw same (omega arith)
  ]

  -- nor before the end of any that is before it
  pub spot_after : (s r : ℕ) →
      s < r →
      r < length sections →
      (spot_at sections reach s).group ≡ (spot_at sections reach r).group →
      (spot_at sections reach s).offset + (section_of sections s).size ≤ (spot_at sections reach r).offset
  spot_after s zero below lt same = absurd (omega (arith, below))
  spot_after s (suc r) below lt same =
      let rises = group_rises s r (omega (arith, below)) (omega (arith, lt)) in
      let last = group_rises r (suc r) (omega arith) lt in
      let step : (spot_at sections reach r).offset + (section_of sections r).size ≤
      (spot_at sections reach (suc r)).offset =
      next_behind reach (spot_at sections reach r) (section_of sections r) (section_of sections (suc r))
      (sound.each (suc r) lt) (omega (arith, rises, last, same)) in
      elim (upto_or_next s r (omega (arith, below))) [
        | inl le ↦ elim (below_or_same s r le) [
          | inl earlier ↦
              let rest = spot_after s r earlier (omega (arith, lt)) (omega (arith, rises, last, same)) in
              omega (arith, rest, step)
          | inr e ↦ rw e step
        ]
        | inr e ↦ absurd (omega (arith, e, below))
      ]

-- the spot of a section behind another
pub spot_next : (sections : List ShapeSection) (reach s : ℕ) (last : Spot) (before section : ShapeSection) →
    0 < s →
    last ≡ spot_at sections reach (s - 1) →
    before ≡ section_of sections (s - 1) →
    section ≡ section_of sections s →
    next_spot reach last before section ≡ spot_at sections reach s
spot_next sections reach zero last before section some l b e = absurd (omega (arith, some))
spot_next sections reach (suc s) last before section some l b e =
    let less : suc s - 1 ≡ s = omega arith in
    let l2 : last ≡ spot_at sections reach s = l ∙ ap (spot_at sections reach) less in
    let b2 : before ≡ section_of sections s = b ∙ ap (section_of sections) less in
    ap (λ (x : Spot). next_spot reach x before section) l2
    ∙ ap (λ (x : ShapeSection). next_spot reach (spot_at sections reach s) x section) b2
    ∙ ap (λ (x : ShapeSection). next_spot reach (spot_at sections reach s) (section_of sections s) x) e
