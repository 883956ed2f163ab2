-- What stands between two places grows with the set of far keys.
use Rattle.std.proofs.Common.{ℕ, zero, suc, ◌≡◌, ◌<◌, ◌≤◌, ◌+◌, ◌-◌, ◌/◌, inl, inr, Bool, true, false, refl, subst, arith}
use Rattle.std.proofs.Common.{if◌then◌else◌, ◌==◌}
use Rattle.std.proofs.lemmas.Bool.Decides.{nat_tests}
use Rattle.std.proofs.Math.Nat.{div-mul-le_self, le-div_iff_mul-le, mul-le-mul_right}
use Rattle.stub_kinds.specs.declared.class.Class.{Class}
use Rattle.stub_kinds.specs.declared.class.Class.TheVariants.{Same, Switch, Save, NearN, EntrySave, EntryBare, EntryN}
use Rattle.stub_kinds.specs.Stubs.{size_of}
use Rattle.layout_rounds.specs.FarSets.{◌⊆◌}
use Rattle.layout_rounds.specs.Shapes.{KeyedText, aligned, IsInText}
use Rattle.layout_rounds.specs.Layout.{section_count, key_count, key_at, section_size, group_at, offset_at, unit, padded, size_upto}
use Rattle.layout_rounds.specs.Layout.{group_size, stub_size, stub_bytes, area, group_start, IsKeyed}
use Rattle.layout_rounds.proofs.Bounds.{unit_some, padded_least, ends_within}
use Rattle.layout_rounds.proofs.Cases.{below_or_last, upto_or_next}

size_grows : (class : Class) (f g : Bool) → (f ≡ true → g ≡ true) → size_of class f ≤ size_of class g
size_grows Same false g sub = omega arith
size_grows Same true g sub = rw (sub refl) (omega arith)
size_grows Switch false false sub = omega arith
size_grows Switch false true sub = omega arith
size_grows Switch true g sub = rw (sub refl) (omega arith)
size_grows Save false false sub = omega arith
size_grows Save false true sub = omega arith
size_grows Save true g sub = rw (sub refl) (omega arith)
size_grows NearN false g sub = omega arith
size_grows NearN true g sub = rw (sub refl) (omega arith)
size_grows EntrySave f g sub = omega arith
size_grows EntryBare f g sub = omega arith
size_grows EntryN f g sub = omega arith

if_grows : (a g x y : ℕ) → x ≤ y → (if a == g then x else 0) ≤ (if a == g then y else 0)
if_grows a g x y le = grind (arith, nat_tests, le)

-- the least multiple of a larger number is no less
aligned_grows : (m n u : ℕ) → 0 < u → m ≤ n → aligned m u ≤ aligned n u
aligned_grows m n u some le =
    let self = div-mul-le_self (m + (u - 1)) u in
    let quotient : (m + (u - 1)) / u ≤ (n + (u - 1)) / u = (le-div_iff_mul-le
    {k = u} {x = (m + (u - 1)) / u} {y = n + (u - 1)} some).1 (omega (arith, self, le)) in
    mul-le-mul_right u quotient

module _ (t : KeyedText) (keyed : IsKeyed t) where
  padded_grows : (m n : ℕ) → m ≤ n → padded t m ≤ padded t n
  padded_grows m n le = aligned_grows m n (unit t) (unit_some t keyed) le

  pub section_within : (s n : ℕ) → s < n → offset_at t s + section_size t s ≤ size_upto t (group_at t s) n
  section_within s zero lt = absurd (omega (arith, lt))
  section_within s (suc n) lt = elim (below_or_last s n lt) [
    | inl below ↦ let ih = section_within s n below in omega (arith, ih)
    | inr same ↦ subst (λ (i : ℕ). offset_at t s + section_size t s ≤ size_upto t (group_at t s) (suc i)) same
        (ends_within t keyed (group_at t s) s refl)
  ]

  -- an instruction of a section stands in its group
  pub point_within : (s offset : ℕ) →
      IsInText t.sections s offset →
      offset_at t s + offset ≤ padded t (group_size t (group_at t s))
  point_within s offset here =
      let least = padded_least t keyed (group_size t (group_at t s)) in
      let size = section_within s (section_count t) here.section_in in
      omega (arith, least, size, here.within)

  -- a group's stub area starts no later than a later group
  pub start_after : (F : ℕ → Bool) (a b : ℕ) →
      a < b →
      group_start t F a + padded t (group_size t a) ≤ group_start t F b
  start_after F a zero lt = absurd (omega (arith, lt))
  start_after F a (suc b) lt = elim (below_or_last a b lt) [
    | inl below ↦ let ih = start_after F a b below in omega (arith, ih)
    | inr same ↦ rw same (omega arith)
  ]

  module _ (F G : ℕ → Bool) (sub : F ⊆ G) where
    bytes_grow : (g n : ℕ) → stub_bytes t F g n ≤ stub_bytes t G g n
    bytes_grow g zero = omega arith
    bytes_grow g (suc n) =
        let ih = bytes_grow g n in
        let size = size_grows (key_at t n).class (F n) (G n) (sub n) in
        let here = if_grows (key_at t n).group g (stub_size t F n) (stub_size t G n) size in
        omega (arith, ih, here)

    -- no stub area shrinks
    pub area_grows : (g : ℕ) → area t F g ≤ area t G g
    area_grows g =
        padded_grows (stub_bytes t F g (key_count t)) (stub_bytes t G g (key_count t)) (bytes_grow g (key_count t))

    -- what stands between two starts grows
    pub between_grows : (a b : ℕ) →
        a ≤ b →
        group_start t F b + group_start t G a ≤ group_start t G b + group_start t F a
    between_grows a zero le = let e : a ≡ 0 = omega (arith, le) in rw e (omega arith)
    between_grows a (suc b) le = elim (upto_or_next a b le) [
      | inl below ↦ let ih = between_grows a b below in omega (arith, ih, area_grows b)
      | inr same ↦ rw same (omega arith)
    ]
