-- What is read of a keyed text.
use Rattle.std.proofs.Common.{ℕ, zero, suc, ◌≡◌, ◌<◌, ◌+◌, ◌-◌, ◌^◌, List, [], ◌∷◌, length, get_or, slice_get, Some, is_some, ap, sym, ◌∙◌}
use Rattle.std.proofs.Common.{refl, arith}
use Rattle.std.proofs.lemmas.Bool.{false≢true}
use Rattle.std.proofs.lemmas.List.{get_or_read}
use Rattle.std.proofs.lemmas.Option.{get_or_from_slice_get}
use Rattle.stub_kinds.specs.declared.class.Key.{Key}
use Rattle.layout_rounds.specs.declared.grouping.Spot.{Spot}
use Rattle.layout_rounds.specs.Shapes.{KeyedText, spot_of, no_spot}
use Rattle.layout_rounds.specs.Layout.{section_count, key_count, section_size, key_at, no_key, group_at, offset_at, groups_upto}
use Rattle.layout_rounds.specs.Layout.{group_count, IsKeyed}
use Rattle.layout_rounds.proofs.Bounds.{spots_count, counted, offset_small, key_counted}

-- the spot of a section: its group is there, and the section ends in it below 2^61
pub record IsSpotOf (t : KeyedText) (s : ℕ) (spot : Spot) : Type 0 where
  pub group : spot.group ≡ group_at t s
  pub offset : spot.offset ≡ offset_at t s
  pub within : spot.group < group_count t
  pub room : spot.offset + section_size t s < 2 ^ 61

some_long : (xs : List Spot) (i : ℕ) (v : Spot) → slice_get xs i ≡ Some v → 0 < length xs
some_long [] i v h = absurd (false≢true (ap is_some h))
some_long (x ∷ xs) i v h = omega arith

module _ (t : KeyedText) (keyed : IsKeyed t) where
  pub spot_read : (s : ℕ) (spot : Spot) →
      s < section_count t →
      spot ≡ get_or t.spots s spot →
      IsSpotOf t s spot
  spot_read s spot lt read =
      let is : spot ≡ spot_of t.spots s =
      get_or_read t.spots s spot (omega (arith, lt, spots_count t keyed)) read no_spot in
      let group : spot.group ≡ group_at t s = ap (λ (x : Spot). x.group) is in
      let offset : spot.offset ≡ offset_at t s = ap (λ (x : Spot). x.offset) is in
      record {
        group = group;
        offset = offset;
        within = omega (arith, group, counted t keyed s lt);
        room = omega (arith, offset, offset_small t keyed s lt, lt, keyed.sections.few);
      }

  -- the group of a key is there
  pub key_read : (k : ℕ) (key : Key) →
      k < key_count t →
      key ≡ get_or t.keys k key →
      key.group < group_count t
  key_read k key lt read =
      let group : key.group ≡ (key_at t k).group =
      ap (λ (x : Key). x.group) (get_or_read t.keys k key lt read (no_key t)) in
      omega (arith, group, key_counted t keyed k lt)

  groups_last : (n : ℕ) → 0 < n → groups_upto t n ≡ group_at t (n - 1) + 1
  groups_last zero some = absurd (omega (arith, some))
  groups_last (suc n) some = let e : suc n - 1 ≡ n = omega arith in rw e refl

  -- the last section's group is the last
  pub last_group : (spot : Spot) →
      slice_get t.spots (length t.spots - 1) ≡ Some spot →
      spot.group + 1 ≡ group_count t
  last_group spot h =
      let long = spots_count t keyed in
      let some = some_long t.spots (length t.spots - 1) spot h in
      let is : spot_of t.spots (section_count t - 1) ≡ spot =
      ap (λ (n : ℕ). spot_of t.spots (n - 1)) (sym long)
      ∙ get_or_from_slice_get t.spots (length t.spots - 1) spot no_spot h in
      let group : group_at t (section_count t - 1) ≡ spot.group = ap (λ (x : Spot). x.group) is in
      omega (arith, group, groups_last (section_count t) (omega (arith, some, long)))
