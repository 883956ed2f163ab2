-- What a branch that reaches a place has to hold, and that the branches of near stubs do.
use Rattle.std.proofs.Common.{ℕ, ◌≡◌, ◌<◌, ◌≤◌, ◌+◌, Bool, true, false, ◌&&◌, refl, arith}
use Rattle.std.specs.Prelude.{List, pos, ◌-ℤ◌}
use Rattle.std.proofs.lemmas.Bool.Decides.{nat_tests}
use Rattle.std.proofs.lemmas.Int.{ints}
use Rattle.ppc_bytes.specs.Bytes.{InSigned}
use Rattle.stub_kinds.specs.declared.class.Class.{Class}
use Rattle.stub_kinds.specs.declared.class.Class.TheVariants.{Same, Switch, Save, NearN, EntrySave, EntryBare, EntryN}
use Rattle.stub_kinds.specs.Stubs.{size_of, BranchReaches}
use Rattle.layout_rounds.specs.declared.shape.ShapeSite.{ShapeSite}
use Rattle.layout_rounds.specs.Shapes.{KeyedText, IsSpan}
use Rattle.layout_rounds.specs.Layout.{Point, key_count, key_at, stub_size, address}
use Rattle.layout_rounds.specs.Layout.{point_in, area_start, area_end, stub_address, IsKeyed}
use Rattle.layout_rounds.specs.Reach.{reaches, spans, area_reaches, reaches_by, IsClosed}
use Rattle.layout_rounds.proofs.Lying.{stub_in_area}

-- the two sides of a reach
pub record IsReached (span at to : ℕ) : Type 0 where
  pub back : at ≤ to + span
  pub ahead : to + 4 ≤ at + span

reach_sides : (span at to : ℕ) → reaches span at to ≡ true → IsReached span at to
reach_sides span at to holds = record { back = grind (arith, nat_tests, holds); ahead = grind (arith, nat_tests, holds) }

both : (p q : Bool) → (p && q) ≡ true → (p ≡ true) × (q ≡ true)
both true q holds = (refl, holds)
both false true holds = (holds, refl)
both false false holds = (holds, holds)

-- a distance in reach fits the branch
pub in_26 : (span at to : ℕ) → IsSpan span → IsReached span at to → InSigned 26 (pos to -ℤ pos at)
in_26 span at to is_span reached =
    let back = reached.back in
    let ahead = reached.ahead in
    let most = is_span.most in
    record { low = omega (arith, ints, back, most); high = omega (arith, ints, ahead, most) }

pub reach_fits : (span at to : ℕ) → IsSpan span → reaches span at to ≡ true → InSigned 26 (pos to -ℤ pos at)
reach_fits span at to is_span holds = in_26 span at to is_span (reach_sides span at to holds)

module _ (t : KeyedText) (keyed : IsKeyed t) (sites : List ShapeSite) (span : ℕ) (is_span : IsSpan span) (F : ℕ → Bool)
    (k : ℕ) (lt : k < key_count t) (to : Point) where
  -- where both ends of an area reach a place, so does what lies between them
  between : (n : ℕ) → n ≤ stub_size t F k → area_reaches t span F (key_at t k).group to ≡ true →
      IsReached span (stub_address t F k + n) (address t F to)
  between n within holds =
      let g = (key_at t k).group in
      let ends = both (spans t span F (area_start t g) to) (spans t span F (area_end g) to) holds in
      let front = reach_sides span (address t F (area_start t g)) (address t F to) ends.0 in
      let back = reach_sides span (address t F (area_end g)) (address t F to) ends.1 in
      let room = stub_in_area t keyed F k lt in
      record {
        back = omega (arith, back.back, room, within);
        ahead = omega (arith, front.ahead, within);
      }

  by_class : (class : Class) (far : Bool) → stub_size t F k ≡ size_of class far →
      (far ≡ false → reaches_by t sites span F class k to ≡ true) →
      BranchReaches class far (stub_address t F k) (address t F to)
  by_class Same far size near = tt
  by_class Switch false size near =
      in_26 span (stub_address t F k + 12) (address t F to) is_span (between 12 (omega (arith, size)) (near refl))
  by_class Switch true size near = tt
  by_class Save false size near =
      in_26 span (stub_address t F k + 4) (address t F to) is_span (between 4 (omega (arith, size)) (near refl))
  by_class Save true size near = tt
  by_class NearN far size near = tt
  by_class EntrySave far size near = tt
  by_class EntryBare far size near = tt
  by_class EntryN far size near = tt

module _ (t : KeyedText) (keyed : IsKeyed t) (sites : List ShapeSite) (span : ℕ) (is_span : IsSpan span) (F : ℕ → Bool) where
  -- the branch of a near stub reaches its place, where the set is closed
  pub stub_branches : IsClosed t sites span F → (k : ℕ) → k < key_count t →
      BranchReaches (key_at t k).class (F k) (stub_address t F k)
      (address t F (point_in t (key_at t k).section (key_at t k).offset))
  stub_branches closed k lt =
      by_class t keyed sites span is_span F k lt (point_in t (key_at t k).section (key_at t k).offset) (key_at t k).class (F k) refl
      (closed k lt)
