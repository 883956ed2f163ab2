-- Addresses are multiples of alignments.
use Rattle.std.proofs.Common.{ℕ, zero, suc, ◌≡◌, ◌<◌, ◌≤◌, ◌+◌, ◌-◌, ◌*◌, ◌/◌, ◌%◌, ◌^◌, inl, inr, Bool, true, false, List, ap, sym, ◌∙◌, subst, refl, arith}
use Rattle.std.proofs.Common.{if◌then◌else◌, ◌==◌, ◌&&◌, nat_le}
use Rattle.std.proofs.lemmas.Bool.{cases_lt}
use Prim.Native.Nat.{◌∣◌}
use Rattle.std.proofs.lemmas.Nat.{pow-add, pow_below}
use Rattle.std.proofs.lemmas.Nat.Gcd.{dvd_refl, dvd-zero, dvd_trans, dvd_of_mod-eq-zero, mod-eq-zero_of_dvd}
use Rattle.std.proofs.Math.Nat.{dvd-add, dvd-mul_left, dvd-mul_right}
use Rattle.ppc_bytes.specs.Bytes.{IsPowerOfTwo}
use Rattle.stub_kinds.specs.declared.class.Class.{Class}
use Rattle.stub_kinds.specs.declared.class.Class.TheVariants.{Same, Switch, Save, NearN, EntrySave, EntryBare, EntryN}
use Rattle.stub_kinds.specs.Stubs.{size_of}
use Rattle.layout_rounds.specs.declared.shape.ShapeSection.{ShapeSection}
use Rattle.layout_rounds.specs.declared.grouping.Spot.{Spot}
use Rattle.layout_rounds.specs.Shapes.{KeyedText, aligned, next_spot, spot_at, section_of, unit_upto}
use Rattle.layout_rounds.specs.Layout.{section_count, key_count, key_at, offset_at, group_at, unit, group_size, stub_size, stub_bytes}
use Rattle.layout_rounds.specs.Layout.{group_start, section_address, stub_address, IsKeyed}
use Rattle.layout_rounds.proofs.Cases.{below_or_last}
use Rattle.layout_rounds.proofs.Spots.{one_of}
use Rattle.layout_rounds.proofs.Bounds.{at_offset, unit_power_of_two}

-- of two powers of two the larger is a multiple of the smaller
pub power_divides : (a b : ℕ) → IsPowerOfTwo a → IsPowerOfTwo b → a ≤ b → a ∣ b
power_divides a b pa pb le =
    let i = pa.0 in
    let j = pb.0 in
    elim (cases_lt j i) [
      | inl less ↦ let fewer = pow_below j i less in absurd (omega (arith, fewer, pa.1, pb.1, le))
      | inr most ↦
          let sum : i + (j - i) ≡ j = omega (arith, most) in
          let whole : 2 ^ i * 2 ^ (j - i) ≡ b = sym (pow-add 2 i (j - i)) ∙ ap (λ (n : ℕ). 2 ^ n) sum ∙ sym pb.1 in
          subst (λ (x : ℕ). x ∣ b) (sym pa.1) (subst (λ (x : ℕ). 2 ^ i ∣ x) whole (dvd-mul_right (2 ^ i) (2 ^ (j - i))))
    ]

pub aligned_divided : (n a : ℕ) → a ∣ aligned n a
aligned_divided n a = dvd-mul_left a ((n + (a - 1)) / a)

size_divided : (class : Class) (far : Bool) → 16 ∣ size_of class far
size_divided Same false = dvd-zero 16
size_divided Same true = dvd_refl 16
size_divided Switch false = dvd_refl 16
size_divided Switch true = dvd-mul_right 16 2
size_divided Save false = dvd_refl 16
size_divided Save true = dvd-mul_right 16 2
size_divided NearN false = dvd-zero 16
size_divided NearN true = dvd_refl 16
size_divided EntrySave far = dvd-mul_right 16 2
size_divided EntryBare far = dvd_refl 16
size_divided EntryN far = dvd_refl 16

-- a section's alignment is no larger than the unit
align_most : (sections : List ShapeSection) (s n : ℕ) → s < n → (section_of sections s).align ≤ unit_upto sections n
align_most sections s zero lt = absurd (omega (arith, lt))
align_most sections s (suc n) lt = elim (below_or_last s n lt) [
  | inl below ↦ let ih = align_most sections s n below in omega (arith, ih)
  | inr same ↦ rw same (omega arith)
]

unit_least : (sections : List ShapeSection) (n : ℕ) → 64 ≤ unit_upto sections n
unit_least sections zero = omega arith
unit_least sections (suc n) = let ih = unit_least sections n in omega (arith, ih)

-- a section stands in its group at a multiple of its alignment
next_divided : (reach : ℕ) (last : Spot) (before section : ShapeSection) →
    section.align ∣ (next_spot reach last before section).offset
next_divided reach last before section =
    let at = aligned (last.offset + before.size) section.align in
    elim (one_of ((before.toc == section.toc) && nat_le (at + section.size) reach)
    (record { group = last.group; offset = at }) (record { group = last.group + 1; offset = 0 })) [
      | inl e ↦ subst (λ (x : ℕ). section.align ∣ x) (sym (ap (λ (s : Spot). s.offset) e))
          (aligned_divided (last.offset + before.size) section.align)
      | inr e ↦ subst (λ (x : ℕ). section.align ∣ x) (sym (ap (λ (s : Spot). s.offset) e)) (dvd-zero section.align)
    ]

spot_divided : (sections : List ShapeSection) (reach s : ℕ) →
    (section_of sections s).align ∣ (spot_at sections reach s).offset
spot_divided sections reach zero = dvd-zero (section_of sections 0).align
spot_divided sections reach (suc s) =
    next_divided reach (spot_at sections reach s) (section_of sections s) (section_of sections (suc s))

module _ (t : KeyedText) (keyed : IsKeyed t) (F : ℕ → Bool) where
  if_divided : (a g x : ℕ) → 16 ∣ x → 16 ∣ (if a == g then x else 0)
  if_divided a g x whole = by_test (a == g)
    where
      by_test : (b : Bool) → 16 ∣ (if b then x else 0)
      by_test true = whole
      by_test false = dvd-zero 16

  bytes_divided : (g n : ℕ) → 16 ∣ stub_bytes t F g n
  bytes_divided g zero = dvd-zero 16
  bytes_divided g (suc n) =
      dvd-add 16 (bytes_divided g n)
      (if_divided (key_at t n).group g (stub_size t F n) (size_divided (key_at t n).class (F n)))

  -- what divides 64 KiB and the unit divides where groups start
  start_divided : (d g : ℕ) → d ∣ 0x10000 → d ∣ unit t → d ∣ group_start t F g
  start_divided d zero page whole = dvd_trans d page (dvd_of_mod-eq-zero 0x10000 keyed.start_whole)
  start_divided d (suc g) page whole =
      dvd-add d
      (dvd-add d (start_divided d g page whole) (dvd_trans d whole (aligned_divided (group_size t g) (unit t))))
      (dvd_trans d whole (aligned_divided (stub_bytes t F g (key_count t)) (unit t)))

  section_divided : (s : ℕ) → s < section_count t → (section_of t.sections s).align ∣ section_address t F s
  section_divided s lt =
      let sound = keyed.sections.each s lt in
      let align = (section_of t.sections s).align in
      let most : align ≤ unit t = align_most t.sections s (section_count t) lt in
      let page : align ∣ 0x10000 = power_divides align 0x10000 sound.power (16, refl) sound.most in
      let whole : align ∣ unit t = power_divides align (unit t) sound.power (unit_power_of_two t keyed) most in
      let offset : align ∣ offset_at t s =
      subst (λ (x : ℕ). align ∣ x) (sym (at_offset t keyed s lt)) (spot_divided t.sections t.reach s) in
      let here : offset_at t s + 0 ≡ offset_at t s = omega arith in
      dvd-add align (start_divided align (group_at t s) page whole) (subst (λ (x : ℕ). align ∣ x) (sym here) offset)

  -- a section begins at a multiple of its alignment
  pub section_whole : (s : ℕ) → s < section_count t → section_address t F s % (section_of t.sections s).align ≡ 0
  section_whole s lt = mod-eq-zero_of_dvd (section_of t.sections s).align (section_divided s lt)

  -- so at one of 4
  pub section_fourth : (s : ℕ) → s < section_count t → section_address t F s % 4 ≡ 0
  section_fourth s lt =
      let sound = keyed.sections.each s lt in
      let align = (section_of t.sections s).align in
      mod-eq-zero_of_dvd 4 (dvd_trans 4 (power_divides 4 align (2, refl) sound.power sound.least) (section_divided s lt))

  -- and a stub at a multiple of 16
  pub stub_whole : (k : ℕ) → stub_address t F k % 16 ≡ 0
  stub_whole k =
      let g = (key_at t k).group in
      let least = unit_least t.sections (section_count t) in
      let whole : 16 ∣ unit t = power_divides 16 (unit t) (4, refl) (unit_power_of_two t keyed) (omega (arith, least)) in
      mod-eq-zero_of_dvd 16
      (dvd-add 16
      (dvd-add 16 (start_divided 16 g (dvd-mul_right 16 0x1000) whole) (dvd_trans 16 whole (aligned_divided (group_size t g) (unit t))))
      (bytes_divided g k))
