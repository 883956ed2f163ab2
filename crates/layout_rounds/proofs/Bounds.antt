-- No sum of a layout wraps.
use Rattle.std.proofs.Common.{ℕ, zero, suc, ◌≡◌, ◌≢◌, ◌<◌, ◌≤◌, ◌+◌, ◌*◌, ◌^◌, ◌⊎◌, inl, inr, Bool, true, false, List, length, max, ap}
use Rattle.std.proofs.Common.{sym, ◌∙◌, refl, subst, arith, if◌then◌else◌, ◌==◌}
use Rattle.std.proofs.lemmas.Bool.Decides.{nat_tests}
use Rattle.std.proofs.lemmas.List.FromFn.{get_or-map-range_with_len, length-map-range_with_len}
use Rattle.ppc_bytes.specs.Bytes.{IsPowerOfTwo}
use Rattle.stub_kinds.specs.declared.class.Class.{Class}
use Rattle.stub_kinds.specs.declared.class.Class.TheVariants.{Same, Switch, Save, NearN, EntrySave, EntryBare, EntryN}
use Rattle.stub_kinds.specs.Stubs.{size_of}
use Rattle.layout_rounds.specs.declared.shape.ShapeSection.{ShapeSection}
use Rattle.layout_rounds.specs.declared.grouping.Spot.{Spot}
use Rattle.layout_rounds.specs.Shapes.{KeyedText, spot_at, spot_of, section_of, unit_upto, AreSound}
use Rattle.layout_rounds.specs.Layout.{section_count, key_count, key_at, section_size, group_at, offset_at, unit, padded, size_upto}
use Rattle.layout_rounds.specs.Layout.{group_size, groups_upto, group_count, stub_size, stub_bytes, area, group_start, address, area_start}
use Rattle.layout_rounds.specs.Layout.{section_address, stub_address, IsKeyed}
use Rattle.layout_rounds.proofs.Aligned.{power_pos, aligned_most, aligned_least}
use Rattle.layout_rounds.proofs.Spots.{next_either, group_most, offset_most, group_rises}
use Rattle.layout_rounds.proofs.Totals.{total, total_grows}

pub if_same : (a g x : ℕ) → a ≡ g → (if a == g then x else 0) ≡ x
if_same a g x same = grind (arith, nat_tests)

if_other : (a g x : ℕ) → a ≢ g → (if a == g then x else 0) ≡ 0
if_other a g x apart = grind (arith, nat_tests)

if_most : (a g x : ℕ) → (if a == g then x else 0) ≤ x
if_most a g x = grind (arith, nat_tests)

larger : (a b : ℕ) → (max a b ≡ a) ⊎ (max a b ≡ b)
larger a b = grind arith

max_power : (a b : ℕ) → IsPowerOfTwo a → IsPowerOfTwo b → IsPowerOfTwo (max a b)
max_power a b pa pb = elim (larger a b) [
  | inl e ↦ subst IsPowerOfTwo (sym e) pa
  | inr e ↦ subst IsPowerOfTwo (sym e) pb
]

-- the unit is a power of two
unit_power : (sections : List ShapeSection) →
    AreSound sections →
    (n : ℕ) →
    n ≤ length sections →
    IsPowerOfTwo (unit_upto sections n)
unit_power sections sound zero le = (6, refl)
unit_power sections sound (suc n) le =
    max_power (unit_upto sections n) (section_of sections n).align
    (unit_power sections sound n (omega (arith, le)))
    (sound.each n (omega (arith, le))).power

-- of at most 64 KiB
unit_most : (sections : List ShapeSection) →
    AreSound sections →
    (n : ℕ) →
    n ≤ length sections →
    unit_upto sections n ≤ 0x10000
unit_most sections sound zero le = omega arith
unit_most sections sound (suc n) le =
    omega (arith, unit_most sections sound n (omega (arith, le)), (sound.each n (omega (arith, le))).most)

size_most : (class : Class) (far : Bool) → size_of class far ≤ 32
size_most Same false = omega arith
size_most Same true = omega arith
size_most Switch false = omega arith
size_most Switch true = omega arith
size_most Save false = omega arith
size_most Save true = omega arith
size_most NearN false = omega arith
size_most NearN true = omega arith
size_most EntrySave far = omega arith
size_most EntryBare far = omega arith
size_most EntryN far = omega arith

module _ (t : KeyedText) (keyed : IsKeyed t) where
  pub unit_power_of_two : IsPowerOfTwo (unit t)
  unit_power_of_two = unit_power t.sections keyed.sections (section_count t) (omega arith)

  pub unit_some : 0 < unit t
  unit_some = power_pos (unit t) unit_power_of_two

  pub padded_least : (n : ℕ) → n ≤ padded t n
  padded_least n = aligned_least n (unit t) unit_some

  pub unit_small : unit t ≤ 0x10000
  unit_small = unit_most t.sections keyed.sections (section_count t) (omega arith)

  pub spots_count : length t.spots ≡ section_count t
  spots_count = ap (λ (xs : List Spot). length xs) keyed.spots ∙
      length-map-range_with_len (spot_at t.sections t.reach) 0 (section_count t)

  at_spot : (s : ℕ) → s < section_count t → spot_of t.spots s ≡ spot_at t.sections t.reach s
  at_spot s lt =
      ap (λ (xs : List Spot). spot_of xs s) keyed.spots
      ∙ get_or-map-range_with_len (spot_at t.sections t.reach) 0 (section_count t) s s _ lt (omega arith)

  pub at_group : (s : ℕ) → s < section_count t → group_at t s ≡ (spot_at t.sections t.reach s).group
  at_group s lt = ap (λ (x : Spot). x.group) (at_spot s lt)

  pub at_offset : (s : ℕ) → s < section_count t → offset_at t s ≡ (spot_at t.sections t.reach s).offset
  at_offset s lt = ap (λ (x : Spot). x.offset) (at_spot s lt)

  size_small : (s : ℕ) → s < section_count t → section_size t s < 0x100000000
  size_small s lt = (keyed.sections.each s lt).size

  -- an offset is small
  pub offset_small : (s : ℕ) → s < section_count t → offset_at t s + section_size t s ≤ suc s * 0x100010000
  offset_small s lt = omega (arith, at_offset s lt, offset_most t.sections t.reach keyed.sections s lt, size_small s lt)

  counted_upto : (s n : ℕ) → n ≤ section_count t → s < n → group_at t s < groups_upto t n
  counted_upto s zero le below = absurd (omega (arith, below))
  counted_upto s (suc n) le below =
      let rises = group_rises t.sections t.reach keyed.sections s n (omega (arith, below)) (omega (arith, le)) in
      omega (arith, rises, at_group s (omega (arith, le, below)), at_group n (omega (arith, le)))

  -- a section's group is there
  pub counted : (s : ℕ) → s < section_count t → group_at t s < group_count t
  counted s lt = counted_upto s (section_count t) (omega arith) lt

  groups_most : (n : ℕ) → n ≤ section_count t → groups_upto t n ≤ n
  groups_most zero le = omega arith
  groups_most (suc n) le =
      omega (arith, at_group n (omega (arith, le)), group_most t.sections t.reach keyed.sections n (omega (arith, le)))

  -- there are no more groups than sections
  pub few_groups : group_count t < 2 ^ 28
  few_groups = omega (arith, groups_most (section_count t) (omega arith), keyed.sections.few)

  -- a section ends in its group
  pub ends_within : (g s : ℕ) → group_at t s ≡ g → offset_at t s + section_size t s ≤ size_upto t g (suc s)
  ends_within g s same = let e = if_same (group_at t s) g (offset_at t s + section_size t s) same in omega (arith, e)

  -- a group has few bytes
  pub size_most_upto : (g n : ℕ) → n ≤ section_count t → size_upto t g n ≤ n * 0x100010000
  size_most_upto g zero le = omega arith
  size_most_upto g (suc n) le =
      let most = if_most (group_at t n) g (offset_at t n + section_size t n) in
      omega (arith, most, offset_small n (omega (arith, le)), size_most_upto g n (omega (arith, le)))

  -- the group has no bytes less far before it than that
  ends_near : (s : ℕ) →
      s < section_count t →
      offset_at t s + section_size t s ≤ size_upto t (group_at t s) s + 0x100010000
  ends_near zero lt = omega (arith, at_offset zero lt, size_small zero lt)
  ends_near (suc s) lt =
      let before : s < section_count t = omega (arith, lt) in
      elim (next_either t.reach (spot_at t.sections t.reach s) (section_of t.sections s)
      (section_of t.sections (suc s)) (keyed.sections.each (suc s) lt)) [
        | inl joins ↦
            let same : group_at t s ≡ group_at t (suc s) = at_group s before ∙ sym joins.group ∙
            sym (at_group (suc s) lt) in
            omega (
              arith,
              joins.offset,
              at_offset s before,
              at_offset (suc s) lt,
              ends_within (group_at t (suc s)) s same,
              size_small (suc s) lt,
            )
        | inr begins ↦ omega (arith, begins.offset, at_offset (suc s) lt, size_small (suc s) lt)
      ]

  -- one more section
  more_size : (s : ℕ) →
      s < section_count t →
      (n : ℕ) →
      total (λ g. size_upto t g (suc s)) n ≤ total (λ g. size_upto t g s) n + 0x100010000
  more_size s lt n = total_grows (λ g. size_upto t g s) (λ g. size_upto t g (suc s)) (group_at t s) 0x100010000
      (λ g apart. let e = if_other (group_at t s) g (offset_at t s + section_size t s) (omega (arith, apart)) in
      omega (arith, e))
      (let most = if_most (group_at t s) (group_at t s) (offset_at t s + section_size t s) in
      omega (arith, most, ends_near s lt))
      n

  no_sizes : (n : ℕ) → total (λ g. size_upto t g 0) n ≤ 0
  no_sizes zero = omega arith
  no_sizes (suc n) = omega (arith, no_sizes n)

  sizes_total : (s : ℕ) → s ≤ section_count t → (n : ℕ) → total (λ g. size_upto t g s) n ≤ s * 0x100010000
  sizes_total zero le n = no_sizes n
  sizes_total (suc s) le n = omega (arith, more_size s (omega (arith, le)) n, sizes_total s (omega (arith, le)) n)

  module _ (F : ℕ → Bool) where
    stub_most : (k : ℕ) → stub_size t F k ≤ 32
    stub_most k = size_most (key_at t k).class (F k)

    more_bytes : (k n : ℕ) → total (λ g. stub_bytes t F g (suc k)) n ≤ total (λ g. stub_bytes t F g k) n + 32
    more_bytes k n = total_grows (λ g. stub_bytes t F g k) (λ g. stub_bytes t F g (suc k)) (key_at t k).group 32
        (λ g apart. let e = if_other (key_at t k).group g (stub_size t F k) (omega (arith, apart)) in omega (arith, e))
        (let most = if_most (key_at t k).group (key_at t k).group (stub_size t F k) in omega (arith, most, stub_most k))
        n

    no_bytes : (n : ℕ) → total (λ g. stub_bytes t F g 0) n ≤ 0
    no_bytes zero = omega arith
    no_bytes (suc n) = omega (arith, no_bytes n)

    bytes_total : (k n : ℕ) → total (λ g. stub_bytes t F g k) n ≤ k * 32
    bytes_total zero n = no_bytes n
    bytes_total (suc k) n = omega (arith, more_bytes k n, bytes_total k n)

    bytes_small : (g k : ℕ) → stub_bytes t F g k ≤ k * 32
    bytes_small g zero = omega arith
    bytes_small g (suc k) =
        let most = if_most (key_at t k).group g (stub_size t F k) in
        omega (arith, most, stub_most k, bytes_small g k)

    start_most : (g : ℕ) →
        group_start t F g ≤ t.start + total (λ i. group_size t i) g + total (λ i. stub_bytes t F i (key_count t)) g
        + g * 0x20000
    start_most zero = omega arith
    start_most (suc g) =
        let sections_padded = aligned_most (group_size t g) (unit t) in
        let stubs_padded = aligned_most (stub_bytes t F g (key_count t)) (unit t) in
        omega (arith, start_most g, sections_padded, stubs_padded, unit_small)

    -- groups start below 2^61
    pub start_small : (g : ℕ) → g ≤ group_count t → group_start t F g < 2 ^ 61
    start_small g le = omega (
      arith,
      start_most g,
      sizes_total (section_count t) (omega arith) g,
      bytes_total (key_count t) g,
      few_groups,
      le,
      keyed.sections.few,
      keyed.few_keys,
      keyed.start_low,
    )

    -- a stub area ends below 2^61
    pub area_low : (g : ℕ) → g < group_count t → address t F (area_start t g) + area t F g < 2 ^ 61
    area_low g lt = start_small (suc g) lt

    -- a section ends below 2^62
    pub section_low : (s : ℕ) → s < section_count t → section_address t F s + section_size t s < 2 ^ 62
    section_low s lt =
        let here = counted s lt in
        omega (arith, start_small (group_at t s) (omega (arith, here)), offset_small s lt, keyed.sections.few, lt)

  -- the group of a key is there
  pub key_counted : (k : ℕ) → k < key_count t → (key_at t k).group < group_count t
  key_counted k lt =
      let place = (keyed.keys k lt).group_in in
      let here = counted place.0 place.1 in
      omega (arith, here, place.2)

  -- a stub ends below 2^62
  pub stub_low : (F : ℕ → Bool) (k : ℕ) → k < key_count t → stub_address t F k + stub_size t F k < 2 ^ 62
  stub_low F k lt =
      let g = (key_at t k).group in
      omega (arith, area_low F g (key_counted k lt), bytes_small F g k, stub_most F k, lt, keyed.few_keys)
