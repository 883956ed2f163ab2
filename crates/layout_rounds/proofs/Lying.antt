-- Sections and stubs lie in the text, apart from one another.
use Rattle.std.proofs.Common.{ℕ, zero, suc, ◌≡◌, ◌<◌, ◌≤◌, ◌+◌, inl, inr, Bool, sym, ◌∙◌, subst, refl, arith}
use Rattle.std.proofs.Common.{if◌then◌else◌, nat_lt}
use Rattle.std.proofs.lemmas.Bool.{cases_lt}
use Rattle.std.proofs.lemmas.Bool.Decides.{nat_tests}
use Rattle.layout_rounds.specs.Shapes.{KeyedText, section_of}
use Rattle.layout_rounds.specs.Layout.{section_count, key_count, key_at, group_at, offset_at, section_size, padded, group_size}
use Rattle.layout_rounds.specs.Layout.{stub_size, stub_bytes, area, group_start, section_address, stub_address}
use Rattle.layout_rounds.specs.Layout.{sections_end, stubs_end, IsKeyed}
use Rattle.layout_rounds.specs.Lying.{IsInLayout, AreApart}
use Rattle.layout_rounds.proofs.Cases.{below_or_last, below_or_same}
use Rattle.layout_rounds.proofs.Spots.{group_rises, spot_after}
use Rattle.layout_rounds.proofs.Bounds.{padded_least, at_group, at_offset, if_same}
use Rattle.layout_rounds.proofs.Growth.{section_within}
use Rattle.layout_rounds.proofs.Multiples.{section_whole, stub_whole}

module _ (t : KeyedText) (keyed : IsKeyed t) (F : ℕ → Bool) where
  start_least : (g : ℕ) → t.start ≤ group_start t F g
  start_least zero = omega arith
  start_least (suc g) = let ih = start_least g in omega (arith, ih)

  section_to : (s n : ℕ) → s < n → section_address t F s + section_size t s ≤ sections_end t F n
  section_to s zero lt = absurd (omega (arith, lt))
  section_to s (suc n) lt = elim (below_or_last s n lt) [
    | inl below ↦ let ih = section_to s n below in omega (arith, ih)
    | inr same ↦ rw same (omega arith)
  ]

  counted_end : (size end : ℕ) → 0 < size → (if nat_lt 0 size then end else 0) ≡ end
  counted_end size end some = grind (arith, nat_tests)

  stub_to : (k n : ℕ) → k < n → 0 < stub_size t F k → stub_address t F k + stub_size t F k ≤ stubs_end t F n
  stub_to k zero lt some = absurd (omega (arith, lt))
  stub_to k (suc n) lt some = elim (below_or_last k n lt) [
    | inl below ↦ let ih = stub_to k n below some in omega (arith, ih)
    | inr same ↦
        let this : 0 < stub_size t F n = subst (λ (i : ℕ). 0 < stub_size t F i) same some in
        let end = counted_end (stub_size t F n) (stub_address t F n + stub_size t F n) this in
        rw same (omega (arith, end))
  ]

  pub section_lies : (s : ℕ) → s < section_count t →
      IsInLayout t F (section_address t F s) (section_size t s) (section_of t.sections s).align
  section_lies s lt =
      let least = start_least (group_at t s) in
      let end = section_to s (section_count t) lt in
      record { from = omega (arith, least); to = omega (arith, end); whole = section_whole t keyed F s lt }

  pub stub_lies : (k : ℕ) → k < key_count t → 0 < stub_size t F k → IsInLayout t F (stub_address t F k) (stub_size t F k) 16
  stub_lies k lt some =
      let least = start_least (key_at t k).group in
      let end = stub_to k (key_count t) lt some in
      record { from = omega (arith, least); to = omega (arith, end); whole = stub_whole t keyed F k }

  -- a group and its stub area end no later than a later group starts
  group_before : (a b : ℕ) → a < b → group_start t F a + padded t (group_size t a) + area t F a ≤ group_start t F b
  group_before a zero lt = absurd (omega (arith, lt))
  group_before a (suc b) lt = elim (below_or_last a b lt) [
    | inl below ↦ let ih = group_before a b below in omega (arith, ih)
    | inr same ↦ rw same (omega arith)
  ]

  bytes_rise : (g j k : ℕ) → j ≤ k → stub_bytes t F g j ≤ stub_bytes t F g k
  bytes_rise g j zero le = let e : j ≡ 0 = omega (arith, le) in rw e (omega arith)
  bytes_rise g j (suc k) le = elim (below_or_same j (suc k) le) [
    | inl below ↦ let ih = bytes_rise g j k (omega (arith, below)) in omega (arith, ih)
    | inr same ↦ rw same (omega arith)
  ]

  -- a stub ends in its area no later than a later one of the same area begins
  bytes_behind : (g j k : ℕ) → (key_at t j).group ≡ g → j < k → stub_bytes t F g j + stub_size t F j ≤ stub_bytes t F g k
  bytes_behind g j k same lt =
      let here = if_same (key_at t j).group g (stub_size t F j) same in
      let rest = bytes_rise g (suc j) k (omega (arith, lt)) in
      omega (arith, here, rest)

  pub stub_in_area : (k : ℕ) → k < key_count t →
      stub_bytes t F (key_at t k).group k + stub_size t F k ≤ area t F (key_at t k).group
  stub_in_area k lt =
      let g = (key_at t k).group in
      let all = bytes_behind g k (key_count t) refl lt in
      let least = padded_least t keyed (stub_bytes t F g (key_count t)) in
      omega (arith, all, least)

  -- a section ends no later than its group's stub area begins
  section_in_group : (s : ℕ) → s < section_count t → offset_at t s + section_size t s ≤ padded t (group_size t (group_at t s))
  section_in_group s lt =
      let within = section_within t keyed s (section_count t) lt in
      let least = padded_least t keyed (group_size t (group_at t s)) in
      omega (arith, within, least)

  -- a section ends no later than a later one begins
  pub section_before : (s r : ℕ) → s < r → r < section_count t →
      section_address t F s + section_size t s ≤ section_address t F r
  section_before s r lt within =
      let rises = group_rises t.sections t.reach keyed.sections s r (omega (arith, lt)) within in
      let here = at_group t keyed s (omega (arith, lt, within)) in
      let there = at_group t keyed r within in
      elim (cases_lt (group_at t s) (group_at t r)) [
        | inl less ↦
            let groups = group_before (group_at t s) (group_at t r) less in
            let room = section_in_group s (omega (arith, lt, within)) in
            omega (arith, groups, room)
        | inr most ↦
            let same : group_at t s ≡ group_at t r = omega (arith, most, rises, here, there) in
            let behind = spot_after t.sections t.reach keyed.sections s r lt within (sym here ∙ same ∙ there) in
            let at = at_offset t keyed s (omega (arith, lt, within)) in
            let to = at_offset t keyed r within in
            let starts : group_start t F (group_at t s) ≡ group_start t F (group_at t r) = rw same refl in
            omega (arith, behind, at, to, starts)
      ]

  -- a section and a stub are apart
  pub stub_apart : (s k : ℕ) → s < section_count t → k < key_count t →
      AreApart (section_address t F s) (section_size t s) (stub_address t F k) (stub_size t F k)
  stub_apart s k lt in_keys =
      let g = group_at t s in
      let h = (key_at t k).group in
      let room = section_in_group s lt in
      elim (cases_lt h g) [
        | inl less ↦
            let groups = group_before h g less in
            let stub = stub_in_area k in_keys in
            inr (omega (arith, groups, stub))
        | inr most ↦ elim (below_or_same g h most) [
          | inl below ↦ let groups = group_before g h below in inl (omega (arith, groups, room))
          | inr same ↦
              let starts : group_start t F g + padded t (group_size t g) ≡ group_start t F h + padded t (group_size t h) =
              rw same refl in
              inl (omega (arith, starts, room))
        ]
      ]

  -- and so are two stubs
  pub stubs_apart : (j k : ℕ) → j < k → k < key_count t →
      AreApart (stub_address t F j) (stub_size t F j) (stub_address t F k) (stub_size t F k)
  stubs_apart j k lt in_keys =
      let g = (key_at t j).group in
      let h = (key_at t k).group in
      let first = stub_in_area j (omega (arith, lt, in_keys)) in
      let second = stub_in_area k in_keys in
      elim (cases_lt h g) [
        | inl less ↦ let groups = group_before h g less in inr (omega (arith, groups, second))
        | inr most ↦ elim (below_or_same g h most) [
          | inl below ↦ let groups = group_before g h below in inl (omega (arith, groups, first))
          | inr same ↦
              let behind = bytes_behind g j k refl lt in
              let bytes : stub_bytes t F g k ≡ stub_bytes t F h k = rw same refl in
              let starts : group_start t F g + padded t (group_size t g) ≡ group_start t F h + padded t (group_size t h) =
              rw same refl in
              inl (omega (arith, behind, bytes, starts))
        ]
      ]
